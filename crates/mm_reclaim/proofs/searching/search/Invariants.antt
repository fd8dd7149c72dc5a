use Rattle.std.proofs.Common.{◌≡◌}
use Rattle.mm_move_laws.specs.{valid_places}
use Rattle.mm_reclaim.specs.Seeking.{Seeking}
use Rattle.mm_reclaim.proofs.searching.search.Given as goal

abbrev pub invariant-turns : goal.invariant-turns
invariant-turns g l = record {
  seeking : Seeking l.pinned (g.T.StateCalls.shown l.fn.state) (g.T.StateCalls.shown l.state);
  loans : g.T.StateCalls.loans l.state ≡ g.T.StateCalls.loans l.fn.state;
}

abbrev pub decreases-turns : goal.decreases-turns
decreases-turns g l = valid_places (g.T.StateCalls.shown l.state).life
