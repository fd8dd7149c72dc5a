use Rattle.std.proofs.Common.{ℕ, List, Some, sym, ap, ◌∙◌}
use Rattle.mm_move_rules.specs.{changed, same_key, contents_of}
use Rattle.mm_ram.specs.{bytes_of, overwritten}
use Rattle.mm_parts.specs.PartsShown as parts_of
use Rattle.mm_parts.specs.{owners}
use Rattle.mm_frame_laws.proofs.{carries_written}
use Rattle.mm_state.proofs.{rest_page, carried, located_moved, pick, valid_names, valid_owner, valid_calm, own_bytes}
use Rattle.mm_state.proofs.calls.StateStateCalls.write.Goals as goal

pub invariant_of-self-clause-located : goal.invariant_of-self-clause-located
invariant_of-self-clause-located g c =
    let s = c.args.self.now in
    let u = parts_of.shown_parts s.parts in
    let at = pick (u.life.valid c.args.place) c.requires.valid in
    let k = valid_owner u.life s.parts.kept.reached u.bytes _ _ s.located c.args.place at.0 at.1 in
    let page = overwritten (bytes_of u.bytes at.0.0) c.args.off c.args.bytes.now in
    located_moved _ _ _ _ _ (c.write.ensures.made at.0 at.1) (carries_written u.life s.parts.kept.reached u.bytes _ _ s.located at.0 k.0 page k.1 (c.requires.soiled at.0 at.1))

pub returns-clause-bytes : goal.returns-clause-bytes
returns-clause-bytes g c =
    let s = c.args.self.now in
    let u = parts_of.shown_parts s.parts in
    let slots = g.P.Inject.blocks s.paging in
    let blocks = g.F.Inject.blocks s.files in
    let at = pick (u.life.valid c.args.place) c.requires.valid in
    let page = overwritten (bytes_of u.bytes at.0.0) c.args.off c.args.bytes.now in
    λ k named.
    let owner = sym (valid_names (owners u.life.frames) (parts_of.parts_words s.parts) c.args.place at.0 at.1) ∙ named in
    let calm = valid_calm u.life s.parts.kept.reached u.bytes slots blocks s.located c.args.place at.0 at.1 in
    let now = carried _ _ _ _ _ (c.write.ensures.made at.0 at.1) (carries_written u.life s.parts.kept.reached u.bytes slots blocks s.located at.0 k page owner (c.requires.soiled at.0 at.1)) in
    now.bytes ∙ ap (λ (x : List ℕ). changed same_key (contents_of u.life u.bytes slots blocks) k (Some (overwritten x c.args.off c.args.bytes.now))) (own_bytes u.life s.parts.kept.reached u.bytes slots blocks s.located at.0 k owner calm)

pub returns-clause-rest : goal.returns-clause-rest
returns-clause-rest g c = let at = pick ((parts_of.shown_parts c.args.self.now.parts).life.valid c.args.place) c.requires.valid in rest_page _ _ _ _ _ _ _ _ (c.write.ensures.made at.0 at.1)
