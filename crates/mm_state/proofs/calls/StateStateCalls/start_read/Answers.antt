use Rattle.std.proofs.Common.{refl, sym, ap, subst, ◌∙◌}
use Rattle.mm_types.specs.{Frame}
use Rattle.mm_types.specs.declared.moves.Move.TheVariants as move
use Rattle.mm_move_rules.specs.{record_at, is_read}
use Rattle.mm_parts.specs.{PartsOf}
use Rattle.mm_parts.specs.PartsShown as parts_of
use Rattle.mm_frame_laws.proofs.{carries_read}
use Rattle.mm_state.specs.{IsTallied}
use Rattle.mm_state.proofs.{legal_at, located_moved, made_moved, rest_of, tallied_search, read_begun}
use Rattle.mm_state.proofs.calls.StateStateCalls.start_read.Goals as goal

pub invariant_of-self-clause-located : goal.invariant_of-self-clause-located
invariant_of-self-clause-located g c =
    let s = c.args.self.now in
    let u = parts_of.shown_parts s.parts in
    let legal = legal_at u.life _ _ (ap (λ (f : Frame). move.Read f c.args.key) c.start_read-f.ensures.frame) c.requires.legal in
    located_moved _ _ _ _ _ c.start_read-f.ensures.made (carries_read u.life s.parts.kept.reached u.bytes _ _ s.located c.start_read-f.result c.args.key legal)

pub invariant_of-self-clause-tallied : goal.invariant_of-self-clause-tallied
invariant_of-self-clause-tallied g c = let s = c.args.self.now in subst IsTallied (sym c.search.ensures) (tallied_search s.told s.tallied)

pub returns-clause-made : goal.returns-clause-made
returns-clause-made g c =
    let u = parts_of.shown_parts c.args.self.now.parts in
    let legal = legal_at u.life _ _ (ap (λ (f : Frame). move.Read f c.args.key) c.start_read-f.ensures.frame) c.requires.legal in
    made_moved (move.Read c.start_read-f.result c.args.key) _ _ _ _ _ _ _ _ _ _ _ c.start_read-f.ensures.made legal
    c.note.ensures.in_range c.note.ensures.grew refl refl refl c.search.ensures (refl, refl)

pub returns-clause-rest : goal.returns-clause-rest
returns-clause-rest g c =
    let s = c.args.self.now in
    let u = parts_of.shown_parts s.parts in
    let legal = legal_at u.life _ _ (ap (λ (f : Frame). move.Read f c.args.key) c.start_read-f.ensures.frame) c.requires.legal in
    rest_of _ _ _ _ _ _ _ _ _ c.start_read-f.ensures.made (carries_read u.life s.parts.kept.reached u.bytes _ _ s.located c.start_read-f.result c.args.key legal)

pub returns-clause-reading : goal.returns-clause-reading
returns-clause-reading g c =
    let s = c.args.self.now in
    let u = parts_of.shown_parts s.parts in
    let legal = legal_at u.life _ _ (ap (λ (f : Frame). move.Read f c.args.key) c.start_read-f.ensures.frame) c.requires.legal in
    ap (λ (x : PartsOf). is_read (record_at x.life.frames c.start_read-f.result.0).request) c.start_read-f.ensures.made
    ∙ read_begun u.life s.parts.kept.reached c.start_read-f.result c.args.key legal
