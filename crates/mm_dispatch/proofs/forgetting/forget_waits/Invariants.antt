use Rattle.std.proofs.Common.{◌≡◌}
use Rattle.mm_dispatch.specs.{Forgot, IdlesIn}
use Rattle.mm_dispatch.proofs.forgetting.forget_waits.Given as goal

abbrev pub invariant-loop-tid : goal.invariant-loop-tid
invariant-loop-tid g l = record {
  forgot : Forgot l.t l.pid.0 l.tid (g.G.PageStore.store l.fn.g) (g.G.PageStore.store l.g);
  contents : g.G.PageStore.contents l.g ≡ g.G.PageStore.contents l.fn.g;
  passes : IdlesIn g.G.PageStore.unpaged l.t l.pid.0 l.tid (g.G.PageStore.behind l.fn.g) (g.G.PageStore.behind l.g);
  loans : g.G.PageStore.loans l.g ≡ g.G.PageStore.loans l.fn.g;
}
