use Rattle.std.proofs.Common.{◌≡◌, ◌+◌, ◌-◌, ◌≤◌, ℕ}
use Rattle.mm_store.specs.{AreAmong, page_rank}
use Rattle.mm_store.specs.Leaving.{Leaving}
use Rattle.mm_pager.specs.{LetsGo, Thins}
use Rattle.mm_pager.proofs.{GoneUpTo}
use Rattle.mm_pager.proofs.releasing.let_all_go.Given as goal

abbrev pub invariant-loop-from : goal.invariant-loop-from
invariant-loop-from g l = record {
  low : l.first.0 ≤ l.from;
  within : l.from ≤ l.first.0 + l.n;
  went : (held : Leaving) (start to : ℕ) → AreAmong held start to l.pid (record { first = l.first.0; count = l.n }) → LetsGo held start (page_rank l.from) (g.T.StateCalls.shown l.fn.state) (g.T.StateCalls.shown l.state);
  thins : Thins (g.T.StateCalls.shown l.fn.state) (g.T.StateCalls.shown l.state);
  gone : GoneUpTo l.pid l.first.0 l.from (g.T.StateCalls.shown l.state);
  loans : g.T.StateCalls.loans l.state ≡ g.T.StateCalls.loans l.fn.state;
}

abbrev pub decreases-loop-from : goal.decreases-loop-from
decreases-loop-from g l = l.first.0 + l.n - l.from
