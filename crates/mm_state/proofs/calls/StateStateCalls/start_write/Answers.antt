use Rattle.std.proofs.Common.{refl, ap}
use Rattle.mm_types.specs.{Stored}
use Rattle.mm_types.specs.declared.moves.Move.TheVariants as move
use Rattle.mm_parts.specs.PartsShown as parts_of
use Rattle.mm_frame_laws.proofs.{carries_write}
use Rattle.mm_state.proofs.{legal_at, located_moved, made_moved, rest_of}
use Rattle.mm_state.proofs.calls.StateStateCalls.start_write.Goals as goal

pub invariant_of-self-clause-located : goal.invariant_of-self-clause-located
invariant_of-self-clause-located g c =
    let s = c.args.self.now in
    let u = parts_of.shown_parts s.parts in
    let legal = legal_at u.life _ _ (ap (λ (t : Stored). move.Write c.args.f t) c.start_write-to.ensures.to) c.requires.legal in
    located_moved _ _ _ _ _ c.start_write-to.ensures.made (carries_write u.life s.parts.kept.reached u.bytes _ _ s.located c.args.f c.start_write-to.result legal)

pub returns-clause-made : goal.returns-clause-made
returns-clause-made g c =
    let u = parts_of.shown_parts c.args.self.now.parts in
    let legal = legal_at u.life _ _ (ap (λ (t : Stored). move.Write c.args.f t) c.start_write-to.ensures.to) c.requires.legal in
    made_moved (move.Write c.args.f c.start_write-to.result) _ _ _ _ _ _ _ _ _ _ _ c.start_write-to.ensures.made legal
    c.note.ensures.in_range c.note.ensures.grew refl refl refl refl (refl, refl)

pub returns-clause-rest : goal.returns-clause-rest
returns-clause-rest g c =
    let s = c.args.self.now in
    let u = parts_of.shown_parts s.parts in
    let legal = legal_at u.life _ _ (ap (λ (t : Stored). move.Write c.args.f t) c.start_write-to.ensures.to) c.requires.legal in
    rest_of _ _ _ _ _ _ _ _ _ c.start_write-to.ensures.made (carries_write u.life s.parts.kept.reached u.bytes _ _ s.located c.args.f c.start_write-to.result legal)
