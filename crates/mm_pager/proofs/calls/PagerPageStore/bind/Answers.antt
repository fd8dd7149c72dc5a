use Rattle.std.proofs.Common.{refl}
use Rattle.mm_pager.specs.{own_in}
use Rattle.mm_pager.proofs.{turns_either}
use Rattle.mm_pager.proofs.calls.PagerPageStore.bind.Goals as goal

pub returns-clause-passes : goal.returns-clause-passes
returns-clause-passes g c = turns_either _ _ _ _ (own_in c.args.self.now) _ c.bind.ensures.ok c.bind.ensures.err refl refl refl refl refl
