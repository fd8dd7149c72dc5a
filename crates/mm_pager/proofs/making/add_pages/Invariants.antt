use Rattle.std.proofs.Common.{◌≡◌, ◌≤◌}
use Rattle.mm_pager.specs.{PagesAdded}
use Rattle.mm_pager.proofs.making.add_pages.Given as goal

abbrev pub invariant-loop-i : goal.invariant-loop-i
invariant-loop-i g l = record {
  few : l.i ≤ l.n;
  added : PagesAdded l.area.0 l.first.0 l.i (g.T.StateCalls.shown l.fn.state) (g.T.StateCalls.shown l.state);
  loans : g.T.StateCalls.loans l.state ≡ g.T.StateCalls.loans l.fn.state;
}
