use Rattle.mm_state.proofs.{shown_on, located_on}
use Rattle.mm_state.proofs.calls.StateStateCalls.age_all.Goals as goal

pub invariant_of-self-clause-located : goal.invariant_of-self-clause-located
invariant_of-self-clause-located g c = let s = c.args.self.now in located_on _ _ _ _ c.age_all.ensures.made s.located

pub returns-clause-rest : goal.returns-clause-rest
returns-clause-rest g c = shown_on _ _ _ _ _ _ _ _ c.age_all.ensures.made
