use Rattle.std.proofs.Common.{refl}
use Rattle.mm_pager.specs.{own_in, paged_state}
use Rattle.mm_pager.proofs.{turns_still}
use Rattle.mm_pager.proofs.calls.PagerPageStore.reserve.Goals as goal

pub returns-clause-passes : goal.returns-clause-passes
returns-clause-passes g c = turns_still (paged_state c.args.self.now) (paged_state c.args.self.now) (own_in c.args.self.now) _ refl refl refl refl refl
