use Rattle.std.proofs.Common.{replicate, refl, sym, ◌∙◌}
use Rattle.std.specs.Prelude.{slice_set}
use Rattle.std.proofs.lemmas.List.{length-replicate}
use Rattle.mm_parts.specs.PartsShown as parts_of
use Rattle.mm_state.proofs.{block_written, block_whole}
use Rattle.mm_tests.proofs.{slot_behind, named_stays}
use Rattle.mm_tests.proofs.behind.write_slot.Goals as goal

pub invariant_of-state : goal.invariant_of-state
invariant_of-state g c =
    let s = c.args.state.now in
    let u = parts_of.shown_parts s.parts in
    let ok = c.write_device.result in
    let page = replicate 4096 c.args.byte in
    let e = block_written ok _ _ (λ blocks. slice_set blocks c.args.s.0 page) c.write_device.ensures.ok c.write_device.ensures.err in
    record {
      located = slot_behind ok u.life s.parts.kept.reached u.bytes (g.P.Inject.blocks s.paging) (g.F.Inject.blocks s.files) s.located c.requires.none c.args.s.0 page _ e;
      tallied = s.tallied;
      slots_whole = block_whole ok c.args.s.0 page (length-replicate 4096 c.args.byte) _ _ e s.slots_whole;
      blocks_whole = s.blocks_whole;
    }

pub returns : goal.returns
returns g c =
    let s = c.args.state.now in
    let u = parts_of.shown_parts s.parts in
    let ok = c.write_device.result in
    let page = replicate 4096 c.args.byte in
    let e = block_written ok _ _ (λ blocks. slice_set blocks c.args.s.0 page) c.write_device.ensures.ok c.write_device.ensures.err in
    let now = slot_behind ok u.life s.parts.kept.reached u.bytes (g.P.Inject.blocks s.paging) (g.F.Inject.blocks s.files) s.located c.requires.none c.args.s.0 page _ e in
    record {
      rest = refl;
      live = λ k. now.live k ∙ sym (s.located.live k);
      paging = named_stays _ _ _ c.write_device.ensures.served;
      files = refl;
      stored = refl;
    }
