use Rattle.std.proofs.Common.{ap}
use Rattle.mm_state_calls.specs.{StateOf}
use Rattle.mm_pager.specs.{behind_of, own_in, paged_state}
use Rattle.mm_pager.proofs.{turns_still}
use Rattle.mm_pager.proofs.calls.PagerPageStore.close_area.Goals as goal

pub returns-clause-passes : goal.returns-clause-passes
returns-clause-passes g c = turns_still (paged_state c.args.self.now) (g.T.StateCalls.shown c.close_area.new.self) (own_in c.args.self.now) _ (ap behind_of c.close_area.ensures.rest) (ap (λ (s : StateOf). s.told) c.close_area.ensures.rest) (ap (λ (s : StateOf). s.paging) c.close_area.ensures.rest) (ap (λ (s : StateOf). s.files) c.close_area.ensures.rest) (ap (λ (s : StateOf). s.blocks) c.close_area.ensures.rest)
