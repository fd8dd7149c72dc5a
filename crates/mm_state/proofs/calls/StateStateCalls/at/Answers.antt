use Rattle.std.proofs.Common.{refl, sym, subst}
use Rattle.mm_types.specs.declared.moves.Move.TheVariants as move
use Rattle.mm_frame_laws.proofs.{carries_at_plain}
use Rattle.mm_state.specs.{IsTallied}
use Rattle.mm_state.proofs.{plain_grown, located_moved, made_moved, rest_of, tallied_none}
use Rattle.mm_state.proofs.calls.StateStateCalls.at.Goals as goal

pub invariant_of-self-clause-located : goal.invariant_of-self-clause-located
invariant_of-self-clause-located g c =
    let s = c.args.self.now in
    located_moved _ _ _ _ _ c.at.ensures.made (carries_at_plain _ s.parts.kept.reached _ _ _ s.located c.args.line c.args.kind
    s.parts.kept.line.begun (plain_grown c.args.kind c.requires.plain) c.requires.legal)

pub invariant_of-self-clause-tallied : goal.invariant_of-self-clause-tallied
invariant_of-self-clause-tallied g c = subst IsTallied (sym c.none-self.ensures) tallied_none

pub returns-clause-made : goal.returns-clause-made
returns-clause-made g c =
    made_moved (move.At c.args.line c.args.kind) _ _ _ _ _ _ _ _ _ _ _ c.at.ensures.made c.requires.legal
    c.note.ensures.in_range c.note.ensures.grew refl refl refl c.none-self.ensures (refl, refl)

pub returns-clause-rest : goal.returns-clause-rest
returns-clause-rest g c =
    let s = c.args.self.now in
    rest_of _ _ _ _ _ _ _ _ _ c.at.ensures.made (carries_at_plain _ s.parts.kept.reached _ _ _ s.located c.args.line c.args.kind
    s.parts.kept.line.begun (plain_grown c.args.kind c.requires.plain) c.requires.legal)
