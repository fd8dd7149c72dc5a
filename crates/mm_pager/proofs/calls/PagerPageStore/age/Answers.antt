use Rattle.std.proofs.Common.{refl}
use Rattle.mm_store.specs.{AgesAll}
use Rattle.mm_pager.specs.{own_in, paged_state}
use Rattle.mm_pager.proofs.{none_passes}
use Rattle.mm_pager.proofs.calls.PagerPageStore.age.Goals as goal
use Rattle.mm_move_rules.specs.{all_aged}

pub returns-clause-passes : goal.returns-clause-passes
returns-clause-passes g c =
    let s = paged_state c.args.self.now in
    none_passes (AgesAll c.args.pid) s (g.T.StateCalls.shown c.age_all.new.self) (own_in c.args.self.now) _ s.contents (all_aged c.args.pid s.life s.ages) s.waits c.age_all.ensures.rest (record { none = refl; same = refl })
