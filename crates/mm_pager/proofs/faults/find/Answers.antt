use Rattle.mm_reclaim.proofs.{found_at_once}
use Rattle.std.proofs.Common.{sym, ◌∙◌}
use Rattle.mm_pager.proofs.faults.find.Goals as goal

pub returns-then-not-is_starved-clause-ok : goal.returns-then-not-is_starved-clause-ok
returns-then-not-is_starved-clause-ok g c = found_at_once c.args.pinned (g.T.StateCalls.shown c.args.state.now) (sym c.is_starved.ensures ∙ c.if-not-is_starved.true)
