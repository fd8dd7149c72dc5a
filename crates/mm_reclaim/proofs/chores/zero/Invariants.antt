use Rattle.std.proofs.Common.{◌≡◌, ◌≤◌}
use Rattle.mm_move_rules.specs.{clearings}
use Rattle.mm_reclaim.specs.{RoundsTo}
use Rattle.mm_reclaim.proofs.chores.zero.Given as goal

abbrev pub invariant-loop-cleared : goal.invariant-loop-cleared
invariant-loop-cleared g l = record {
  few : l._cleared ≤ l.n;
  rounds : RoundsTo clearings l.n l._cleared (g.T.StateCalls.shown l.fn.state) (g.T.StateCalls.shown l.state);
  loans : g.T.StateCalls.loans l.state ≡ g.T.StateCalls.loans l.fn.state;
}
