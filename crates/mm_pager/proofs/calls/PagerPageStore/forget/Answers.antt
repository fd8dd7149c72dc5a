use Rattle.mm_pager.specs.{own_in}
use Rattle.mm_pager.proofs.{forgot_store, forgot_passes}
use Rattle.mm_pager.proofs.calls.PagerPageStore.forget.Goals as goal

pub returns-clause-store : goal.returns-clause-store
returns-clause-store g c = forgot_store _ _ (own_in c.args.self.now) c.args.tid.0 c.forget.ensures.rest

pub returns-clause-passes : goal.returns-clause-passes
returns-clause-passes g c = forgot_passes _ _ (own_in c.args.self.now) c.args.tid.0 c.forget.ensures.rest
