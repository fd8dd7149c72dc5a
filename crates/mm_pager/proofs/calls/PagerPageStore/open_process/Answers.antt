use Rattle.std.proofs.Common.{refl}
use Rattle.mm_pager.specs.{own_in}
use Rattle.mm_pager.proofs.{process_set, turns_either}
use Rattle.mm_pager.proofs.calls.PagerPageStore.open_process.Goals as goal

pub open_process-requires : goal.open_process-requires
open_process-requires g c = process_set _ c.args.pid _ _ (g.met.T.StateCalls.holds c.args.self.now.state) c.requires.kind

pub returns-clause-passes : goal.returns-clause-passes
returns-clause-passes g c = turns_either _ _ _ _ (own_in c.args.self.now) _ c.open_process.ensures.ok c.open_process.ensures.err refl refl refl refl refl
