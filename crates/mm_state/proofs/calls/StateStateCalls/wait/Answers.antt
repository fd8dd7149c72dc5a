use Rattle.mm_state.proofs.{located_on, other_request}
use Rattle.mm_state.proofs.calls.StateStateCalls.wait.Goals as goal

pub invariant_of-self-clause-located : goal.invariant_of-self-clause-located
invariant_of-self-clause-located g c = let s = c.args.self.now in located_on _ _ _ _ c.wait.ensures.made s.located

pub wait-requires-clause-other : goal.wait-requires-clause-other
wait-requires-clause-other g c = other_request _ c.args.f c.requires.other
