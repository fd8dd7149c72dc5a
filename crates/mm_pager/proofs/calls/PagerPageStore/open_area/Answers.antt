use Rattle.std.proofs.Common.{refl}
use Rattle.mm_pager.specs.{own_in}
use Rattle.mm_pager.proofs.{turns_either}
use Rattle.mm_pager.proofs.calls.PagerPageStore.open_area.Goals as goal

pub returns-clause-passes : goal.returns-clause-passes
returns-clause-passes g c = turns_either _ _ _ _ (own_in c.args.self.now) _ c.open_area.ensures.ok c.open_area.ensures.err refl refl refl refl refl
