use Rattle.std.proofs.Common.{None, refl}
use Rattle.mm_types.specs.declared.moves.Move.TheVariants as move
use Rattle.mm_frame_laws.proofs.{carries_add_zero}
use Rattle.mm_state.proofs.{located_moved, made_moved, rest_of}
use Rattle.mm_state.proofs.calls.StateStateCalls.add_zero.Goals as goal

pub invariant_of-self-clause-located : goal.invariant_of-self-clause-located
invariant_of-self-clause-located g c = let s = c.args.self.now in located_moved _ _ _ _ _ c.add_zero.ensures.made (carries_add_zero _ s.parts.kept.reached _ _ _ s.located c.args.key c.requires.legal)

pub returns-clause-made : goal.returns-clause-made
returns-clause-made g c = made_moved (move.Add c.args.key None) _ _ _ _ _ _ _ _ _ _ _ c.add_zero.ensures.made c.requires.legal c.note.ensures.in_range c.note.ensures.grew refl refl refl refl (refl, refl)

pub returns-clause-rest : goal.returns-clause-rest
returns-clause-rest g c = let s = c.args.self.now in rest_of _ _ _ _ _ _ _ _ _ c.add_zero.ensures.made (carries_add_zero _ s.parts.kept.reached _ _ _ s.located c.args.key c.requires.legal)
