use Rattle.mm_state.proofs.{located_or}
use Rattle.mm_state.proofs.calls.StateStateCalls.bind.Goals as goal

pub invariant_of-self-clause-located : goal.invariant_of-self-clause-located
invariant_of-self-clause-located g c = let s = c.args.self.now in located_or c.bind.result _ _ _ _ _ c.bind.ensures.ok c.bind.ensures.err s.located s.located
