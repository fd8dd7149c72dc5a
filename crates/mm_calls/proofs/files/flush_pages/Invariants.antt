use Rattle.std.proofs.Common.{◌≡◌}
use Rattle.mm_store.specs.{PassesIn}
use Rattle.mm_calls.specs.{keys_from}
use Rattle.mm_calls.proofs.Flushing.{FlushedTo}
use Rattle.mm_calls.proofs.Flushing.{WereFlushed}
use Rattle.mm_calls.proofs.files.flush_pages.Given as goal

abbrev pub invariant-loop-i : goal.invariant-loop-i
invariant-loop-i g l = record {
  flushed : FlushedTo (g.G.PageStore.contents l.fn.g) (g.G.PageStore.contents l.g) (g.G.PageStore.store l.fn.g) (g.G.PageStore.store l.g) l.fn.area.0 l.fn.first l.i;
  passes : PassesIn g.G.PageStore.unpaged (WereFlushed (keys_from l.fn.area.0 l.fn.first l.i)) (g.G.PageStore.store l.fn.g) (g.G.PageStore.store l.g) (g.G.PageStore.behind l.fn.g) (g.G.PageStore.behind l.g);
  loans : g.G.PageStore.loans l.g ≡ g.G.PageStore.loans l.fn.g;
}
