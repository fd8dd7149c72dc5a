use Rattle.std.proofs.Common.{replicate, refl, sym, ◌∙◌}
use Rattle.std.specs.Prelude.{slice_set}
use Rattle.std.proofs.lemmas.List.{length-replicate}
use Rattle.mm_parts.specs.PartsShown as parts_of
use Rattle.mm_state.proofs.{block_written, block_whole}
use Rattle.mm_tests.proofs.{block_behind, named_stays, as_many}
use Rattle.mm_tests.proofs.behind.write_block.Goals as goal

pub invariant_of-state : goal.invariant_of-state
invariant_of-state g c =
    let s = c.args.state.now in
    let u = parts_of.shown_parts s.parts in
    let ok = c.write_device.result in
    let page = replicate 4096 c.args.byte in
    let e = block_written ok _ _ (λ blocks. slice_set blocks c.args.b.0 page) c.write_device.ensures.ok c.write_device.ensures.err in
    record {
      located = block_behind ok u.life s.parts.kept.reached u.bytes (g.P.Inject.blocks s.paging) (g.F.Inject.blocks s.files) s.located c.requires.none c.args.b.0 page _ e;
      tallied = s.tallied;
      blocks_whole = block_whole ok c.args.b.0 page (length-replicate 4096 c.args.byte) _ _ e s.blocks_whole;
      slots_whole = s.slots_whole;
    }

pub returns : goal.returns
returns g c =
    let s = c.args.state.now in
    let u = parts_of.shown_parts s.parts in
    let ok = c.write_device.result in
    let page = replicate 4096 c.args.byte in
    let e = block_written ok _ _ (λ blocks. slice_set blocks c.args.b.0 page) c.write_device.ensures.ok c.write_device.ensures.err in
    let now = block_behind ok u.life s.parts.kept.reached u.bytes (g.P.Inject.blocks s.paging) (g.F.Inject.blocks s.files) s.located c.requires.none c.args.b.0 page _ e in
    record {
      rest = refl;
      live = λ k. now.live k ∙ sym (s.located.live k);
      files = named_stays _ _ _ c.write_device.ensures.served;
      paging = refl;
      stored = as_many ok c.args.b.0 page _ _ e;
    }
