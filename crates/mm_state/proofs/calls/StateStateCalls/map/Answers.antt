use Rattle.std.proofs.Common.{refl, ap, ◌∙◌}
use Rattle.mm_types.specs.declared.moves.Move.TheVariants as move
use Rattle.mm_move_rules.specs.{record_at, is_read}
use Rattle.mm_parts.specs.{PartsOf}
use Rattle.mm_frame_laws.proofs.{carries_map}
use Rattle.mm_state.proofs.{located_moved, made_moved, rest_of, map_quiet}
use Rattle.mm_state.proofs.calls.StateStateCalls.map.Goals as goal

pub invariant_of-self-clause-located : goal.invariant_of-self-clause-located
invariant_of-self-clause-located g c = let s = c.args.self.now in located_moved _ _ _ _ _ c.map.ensures.made (carries_map _ s.parts.kept.reached _ _ _ s.located c.args.f c.args.place c.requires.legal)

pub returns-clause-made : goal.returns-clause-made
returns-clause-made g c = made_moved (move.Map c.args.f c.args.place) _ _ _ _ _ _ _ _ _ _ _ c.map.ensures.made c.requires.legal c.note.ensures.in_range c.note.ensures.grew refl refl refl refl (refl, refl)

pub returns-clause-rest : goal.returns-clause-rest
returns-clause-rest g c = let s = c.args.self.now in rest_of _ _ _ _ _ _ _ _ _ c.map.ensures.made (carries_map _ s.parts.kept.reached _ _ _ s.located c.args.f c.args.place c.requires.legal)

pub returns-clause-quiet : goal.returns-clause-quiet
returns-clause-quiet g c =
    ap (λ (x : PartsOf). is_read (record_at x.life.frames c.args.f.0).request) c.map.ensures.made
    ∙ map_quiet _ c.args.self.now.parts.kept.reached c.args.f c.args.place c.requires.legal
