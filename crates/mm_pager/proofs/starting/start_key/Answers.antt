use Rattle.std.proofs.Common.{sym, subst}
use Rattle.mm_store.specs.{Start}
use Rattle.mm_pager.specs.{AccessBegun}
use Rattle.mm_pager.proofs.{begun_with_frame}
use Rattle.mm_pager.proofs.starting.start_key.Goals as goal

pub returns-clause-begun : goal.returns-clause-begun
returns-clause-begun g c = subst (λ (r : Start). AccessBegun c.args.need c.args.key c.args.place r (g.T.StateCalls.shown c.args.state.now) (g.T.StateCalls.shown c.start_page-page.new.state)) (sym c.with_frame.ensures) (begun_with_frame c.args.need c.args.key c.args.place c.start_page-page.result _ _ c.start_page-page.ensures.begun)
