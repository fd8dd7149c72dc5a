use Rattle.std.proofs.Common.{◌≡◌, ◌≤◌}
use Rattle.mm_reclaim.specs.{TrimsTo}
use Rattle.mm_reclaim.proofs.chores.trim.Given as goal

abbrev pub invariant-loop-trimmed : goal.invariant-loop-trimmed
invariant-loop-trimmed g l = record {
  few : l._trimmed ≤ l.n;
  trims : TrimsTo l.pid l._trimmed (g.T.StateCalls.shown l.fn.state) (g.T.StateCalls.shown l.state);
  loans : g.T.StateCalls.loans l.state ≡ g.T.StateCalls.loans l.fn.state;
}
