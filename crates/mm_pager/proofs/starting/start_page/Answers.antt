use Rattle.std.proofs.Common.{sym, ◌∙◌}
use Rattle.mm_pager.proofs.{begun_here}
use Rattle.mm_pager.proofs.starting.start_page.Goals as goal

pub returns-in-Some-clause-begun : goal.returns-in-Some-clause-begun
returns-in-Some-clause-begun g c = begun_here c.args.key _ c.args.place _ (g.met.T.StateCalls.holds c.args.state.now) (sym c.valid.ensures ∙ c.in-Some.is) c.requires.named
