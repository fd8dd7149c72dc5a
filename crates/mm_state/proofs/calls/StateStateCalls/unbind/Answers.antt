use Rattle.mm_state.proofs.{located_on}
use Rattle.mm_state.proofs.calls.StateStateCalls.unbind.Goals as goal

pub invariant_of-self-clause-located : goal.invariant_of-self-clause-located
invariant_of-self-clause-located g c = let s = c.args.self.now in located_on _ _ _ _ c.unbind.ensures.made s.located
