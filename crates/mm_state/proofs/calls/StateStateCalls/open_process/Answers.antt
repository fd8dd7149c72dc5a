use Rattle.mm_state.proofs.{located_or}
use Rattle.mm_state.proofs.calls.StateStateCalls.open_process.Goals as goal

pub invariant_of-self-clause-located : goal.invariant_of-self-clause-located
invariant_of-self-clause-located g c = let s = c.args.self.now in located_or c.open_process.result _ _ _ _ _ c.open_process.ensures.ok c.open_process.ensures.err s.located s.located
