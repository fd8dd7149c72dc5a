use Rattle.std.proofs.Common.{refl}
use Rattle.mm_move_rules.specs.{record_at}
use Rattle.mm_ram.specs.{bytes_of, overwritten, with_page}
use Rattle.mm_parts.specs.PartsShown as parts_of
use Rattle.mm_frame_laws.proofs.{carries_written}
use Rattle.mm_state.proofs.{carried, pick, soiled_calm}
use Rattle.mm_tests.proofs.{rest_bytes, same_live}
use Rattle.mm_tests.proofs.behind.write_frame.Goals as goal

pub write_in_parts-requires-clause-calm : goal.write_in_parts-requires-clause-calm
write_in_parts-requires-clause-calm g c = soiled_calm (record_at (parts_of.shown_parts c.args.state.now.parts).life.frames c.args.f.0) c.requires.soiled

pub invariant_of-state : goal.invariant_of-state
invariant_of-state g c =
    let s = c.args.state.now in
    let u = parts_of.shown_parts s.parts in
    let slots = g.P.Inject.blocks s.paging in
    let blocks = g.F.Inject.blocks s.files in
    let k = pick (record_at u.life.frames c.args.f.0).owner c.requires.owned in
    let page = overwritten (bytes_of u.bytes c.args.f.0) 0 c.args.bytes.now in
    let now = carried _ _ _ _ _ c.write_in_parts.ensures.made (carries_written u.life s.parts.kept.reached u.bytes slots blocks s.located c.args.f k.0 page k.1 c.requires.soiled) in
    record { located = now.located; tallied = s.tallied; slots_whole = s.slots_whole; blocks_whole = s.blocks_whole }

pub returns : goal.returns
returns g c =
    let s = c.args.state.now in
    let u = parts_of.shown_parts s.parts in
    let slots = g.P.Inject.blocks s.paging in
    let blocks = g.F.Inject.blocks s.files in
    let own = pick (record_at u.life.frames c.args.f.0).owner c.requires.owned in
    let page = overwritten (bytes_of u.bytes c.args.f.0) 0 c.args.bytes.now in
    let now = carried _ _ _ _ _ c.write_in_parts.ensures.made (carries_written u.life s.parts.kept.reached u.bytes slots blocks s.located c.args.f own.0 page own.1 c.requires.soiled) in
    record {
      rest = rest_bytes _ u (with_page u.bytes c.args.f.0 page) _ _ _ _ _ _ c.write_in_parts.ensures.made;
      live = λ k. same_live _ u (with_page u.bytes c.args.f.0 page) slots blocks c.write_in_parts.ensures.made now.located s.located k;
      paging = refl;
      files = refl;
      stored = refl;
    }
