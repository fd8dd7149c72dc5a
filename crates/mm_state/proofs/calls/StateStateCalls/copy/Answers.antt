use Rattle.std.proofs.Common.{ℕ, List, Option, sym, ap, ◌∙◌}
use Rattle.mm_move_rules.specs.{record_at, changed, same_key, contents_of}
use Rattle.mm_ram.specs.{bytes_of}
use Rattle.mm_parts.specs.PartsShown as parts_of
use Rattle.mm_frame_laws.proofs.{carries_written}
use Rattle.mm_state.proofs.{carried, located_moved, pick, own_page, soiled_calm}
use Rattle.mm_state.proofs.calls.StateStateCalls.copy.Goals as goal

pub copy-requires-clause-to_calm : goal.copy-requires-clause-to_calm
copy-requires-clause-to_calm g c = soiled_calm _ c.requires.soiled

pub invariant_of-self-clause-located : goal.invariant_of-self-clause-located
invariant_of-self-clause-located g c =
    let s = c.args.self.now in
    let u = parts_of.shown_parts s.parts in
    let k = pick (record_at u.life.frames c.args.to.0).owner c.requires.to_owned in
    located_moved _ _ _ _ _ c.copy.ensures.made (carries_written u.life s.parts.kept.reached u.bytes _ _ s.located c.args.to k.0 (bytes_of u.bytes c.args.«from».0) k.1 c.requires.soiled)

pub returns-clause-copied : goal.returns-clause-copied
returns-clause-copied g c =
    let s = c.args.self.now in
    let u = parts_of.shown_parts s.parts in
    let slots = g.P.Inject.blocks s.paging in
    let blocks = g.F.Inject.blocks s.files in
    λ j k from_owner to_owner.
    let now = carried _ _ _ _ _ c.copy.ensures.made (carries_written u.life s.parts.kept.reached u.bytes slots blocks s.located c.args.to k (bytes_of u.bytes c.args.«from».0) to_owner c.requires.soiled) in
    now.bytes ∙ ap (λ (x : Option (List ℕ)). changed same_key (contents_of u.life u.bytes slots blocks) k x) (sym (own_page u.life s.parts.kept.reached u.bytes slots blocks s.located c.args.«from» j from_owner c.requires.from_calm))
