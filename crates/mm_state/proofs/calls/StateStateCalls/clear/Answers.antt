use Rattle.std.proofs.Common.{refl, ap}
use Rattle.mm_types.specs.declared.moves.Move.TheVariants as move
use Rattle.mm_parts.specs.{front}
use Rattle.mm_parts.specs.PartsShown as parts_of
use Rattle.mm_state.proofs.{noted_at, ranged_at, some_free, clear_carries, located_moved, made_moved, rest_of}
use Rattle.mm_state.proofs.calls.StateStateCalls.clear.Goals as goal

pub first_free-f-requires : goal.first_free-f-requires
first_free-f-requires g c = some_free (parts_of.shown_parts c.args.self.now.parts).life c.requires.legal

pub invariant_of-self-clause-located : goal.invariant_of-self-clause-located
invariant_of-self-clause-located g c =
    let s = c.args.self.now in
    let u = parts_of.shown_parts s.parts in
    located_moved _ _ _ _ _ c.clear.ensures.made (clear_carries u.life s.parts.kept.reached u.bytes _ _ s.located (front u.life.frames.free) c.requires.legal)

pub returns-clause-made : goal.returns-clause-made
returns-clause-made g c =
    let same = ap move.Clear c.first_free-f.ensures in
    made_moved _ _ _ _ _ _ _ _ _ _ _ _ c.clear.ensures.made c.requires.legal
    (ranged_at _ _ same c.note.ensures.in_range) (noted_at _ _ _ _ same c.note.ensures.grew) refl refl refl refl (refl, refl)

pub returns-clause-rest : goal.returns-clause-rest
returns-clause-rest g c =
    let s = c.args.self.now in
    let u = parts_of.shown_parts s.parts in
    rest_of _ _ _ _ _ _ _ _ _ c.clear.ensures.made (clear_carries u.life s.parts.kept.reached u.bytes _ _ s.located (front u.life.frames.free) c.requires.legal)
