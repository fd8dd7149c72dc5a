use Rattle.std.proofs.Common.{◌≡◌}
use Rattle.mm_reclaim.specs.{Walks}
use Rattle.mm_reclaim.proofs.searching.walk.Given as goal

abbrev pub invariant-loop-i : goal.invariant-loop-i
invariant-loop-i g l = record {
  walks : Walks l.fn.pinned (g.T.StateCalls.shown l.fn.state) (g.T.StateCalls.shown l.state) l.n l.i;
  loans : g.T.StateCalls.loans l.state ≡ g.T.StateCalls.loans l.fn.state;
}
