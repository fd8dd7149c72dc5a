use Rattle.std.proofs.Common.{◌≡◌, ◌≤◌, true}
use Rattle.mm_pager.specs.{BlocksWritten}
use Rattle.mm_pager.proofs.making.write_blocks.Given as goal

abbrev pub invariant-loop-i : goal.invariant-loop-i
invariant-loop-i g l = record {
  few : l.i ≤ l.n;
  written : BlocksWritten l.first.0 l.i l.byte true (g.T.StateCalls.shown l.fn.state) (g.T.StateCalls.shown l.state);
  loans : g.T.StateCalls.loans l.state ≡ g.T.StateCalls.loans l.fn.state;
}
