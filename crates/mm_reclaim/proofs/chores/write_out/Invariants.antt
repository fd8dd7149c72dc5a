use Rattle.std.proofs.Common.{◌≡◌, ◌≤◌}
use Rattle.mm_reclaim.specs.{RoundsTo, writings}
use Rattle.mm_reclaim.proofs.chores.write_out.Given as goal

abbrev pub invariant-loop-begun : goal.invariant-loop-begun
invariant-loop-begun g l = record {
  few : l._begun ≤ l.n;
  rounds : RoundsTo writings l.n l._begun (g.T.StateCalls.shown l.fn.state) (g.T.StateCalls.shown l.state);
  loans : g.T.StateCalls.loans l.state ≡ g.T.StateCalls.loans l.fn.state;
}
