use Rattle.std.proofs.Common.{refl, ap, ◌∙◌}
use Rattle.mm_types.specs.declared.moves.Move.TheVariants as move
use Rattle.mm_move_rules.specs.{record_at, set_of, is_below_max}
use Rattle.mm_parts.specs.{PartsOf}
use Rattle.mm_frame_laws.proofs.{carries_unmap}
use Rattle.mm_state.proofs.{located_moved, made_moved, rest_of, unmap_requests, unmap_below}
use Rattle.mm_state.proofs.calls.StateStateCalls.unmap.Goals as goal

pub invariant_of-self-clause-located : goal.invariant_of-self-clause-located
invariant_of-self-clause-located g c = let s = c.args.self.now in located_moved _ _ _ _ _ c.unmap.ensures.made (carries_unmap _ s.parts.kept.reached _ _ _ s.located c.args.place c.requires.legal)

pub returns-clause-made : goal.returns-clause-made
returns-clause-made g c = made_moved (move.Unmap c.args.place) _ _ _ _ _ _ _ _ _ _ _ c.unmap.ensures.made c.requires.legal c.note.ensures.in_range c.note.ensures.grew refl refl refl refl (refl, refl)

pub returns-clause-rest : goal.returns-clause-rest
returns-clause-rest g c = let s = c.args.self.now in rest_of _ _ _ _ _ _ _ _ _ c.unmap.ensures.made (carries_unmap _ s.parts.kept.reached _ _ _ s.located c.args.place c.requires.legal)

pub returns-clause-requests : goal.returns-clause-requests
returns-clause-requests g c = λ f.
    ap (λ (x : PartsOf). (record_at x.life.frames f.0).request) c.unmap.ensures.made
    ∙ unmap_requests _ c.args.self.now.parts.kept.reached c.args.place c.requires.legal f

pub returns-clause-below : goal.returns-clause-below
returns-clause-below g c = λ full.
    let kept = c.args.self.now.parts.kept in
    ap (λ (x : PartsOf). is_below_max (set_of x.life c.args.place.pid.0)) c.unmap.ensures.made
    ∙ unmap_below _ kept.reached (λ pid t e. (kept.ranges.sets pid t e).0) c.args.place c.requires.legal full
