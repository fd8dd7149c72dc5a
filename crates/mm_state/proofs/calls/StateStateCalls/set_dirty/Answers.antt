use Rattle.std.proofs.Common.{refl, sym, subst}
use Rattle.mm_types.specs.declared.moves.Move.TheVariants as move
use Rattle.mm_move_rules.specs.{record_at}
use Rattle.mm_parts.specs.{PartsOf}
use Rattle.mm_frame_laws.specs.{IsSoiled}
use Rattle.mm_frame_laws.proofs.{carries_soil}
use Rattle.mm_state.proofs.{located_moved, made_moved, rest_of, soil_soiled}
use Rattle.mm_state.proofs.calls.StateStateCalls.set_dirty.Goals as goal

pub invariant_of-self-clause-located : goal.invariant_of-self-clause-located
invariant_of-self-clause-located g c = let s = c.args.self.now in located_moved _ _ _ _ _ c.set_dirty.ensures.made (carries_soil _ s.parts.kept.reached _ _ _ s.located c.args.f c.requires.legal)

pub returns-clause-made : goal.returns-clause-made
returns-clause-made g c = made_moved (move.Soil c.args.f) _ _ _ _ _ _ _ _ _ _ _ c.set_dirty.ensures.made c.requires.legal c.note.ensures.in_range c.note.ensures.grew refl refl refl refl (refl, refl)

pub returns-clause-rest : goal.returns-clause-rest
returns-clause-rest g c = let s = c.args.self.now in rest_of _ _ _ _ _ _ _ _ _ c.set_dirty.ensures.made (carries_soil _ s.parts.kept.reached _ _ _ s.located c.args.f c.requires.legal)

pub returns-clause-soiled : goal.returns-clause-soiled
returns-clause-soiled g c =
    subst (λ (x : PartsOf). IsSoiled (record_at x.life.frames c.args.f.0)) (sym c.set_dirty.ensures.made)
    (soil_soiled _ c.args.self.now.parts.kept.reached c.args.f c.requires.legal)
