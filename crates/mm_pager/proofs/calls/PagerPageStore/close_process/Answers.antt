use Rattle.std.proofs.Common.{ap}
use Rattle.mm_state_calls.specs.{StateOf}
use Rattle.mm_pager.specs.{behind_of, own_in, paged_state}
use Rattle.mm_pager.proofs.{turns_still}
use Rattle.mm_pager.proofs.calls.PagerPageStore.close_process.Goals as goal

pub returns-clause-passes : goal.returns-clause-passes
returns-clause-passes g c = turns_still (paged_state c.args.self.now) (g.T.StateCalls.shown c.close_process.new.self) (own_in c.args.self.now) _ (ap behind_of c.close_process.ensures.rest) (ap (λ (s : StateOf). s.told) c.close_process.ensures.rest) (ap (λ (s : StateOf). s.paging) c.close_process.ensures.rest) (ap (λ (s : StateOf). s.files) c.close_process.ensures.rest) (ap (λ (s : StateOf). s.blocks) c.close_process.ensures.rest)
