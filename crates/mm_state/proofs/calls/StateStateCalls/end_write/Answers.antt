use Rattle.std.proofs.Common.{sym, ap, ◌∙◌, subst}
use Rattle.mm_types.specs.{Record}
use Rattle.mm_move_rules.specs.{slot_of}
use Rattle.mm_move_laws.specs.{is_backed, block_of}
use Rattle.mm_parts.specs.{PartsOf, waits_of}
use Rattle.mm_parts.specs.PartsShown as parts_of
use Rattle.mm_frame_laws.specs.{slots_written, blocks_written}
use Rattle.mm_frame_laws.proofs.{write_backed, slot_there, block_there, page_of_key}
use Rattle.mm_state_calls.specs.{written_if}
use Rattle.mm_state.specs.{IsTallied}
use Rattle.mm_state.proofs.{made_by_write, located_moved, rest_of, noted_at, ranged_at, tallied_write, slots_whole, blocks_whole, is_writing}
use Rattle.mm_state.proofs.{write_low, write_legal, write_calm, write_carries, same_page, no_block}
use Rattle.mm_state.proofs.calls.StateStateCalls.end_write.Goals as goal

pub page-page-requires : goal.page-page-requires
page-page-requires g c = is_writing (parts_of.shown_parts c.args.self.now.parts).life c.args.f c.requires.legal

pub look-home-requires : goal.look-home-requires
look-home-requires g c = let s = c.args.self.now in write_low (parts_of.shown_parts s.parts).life s.parts.kept.reached c.args.f c.requires.legal

pub put_page-ok-requires-clause-backed : goal.put_page-ok-requires-clause-backed
put_page-ok-requires-clause-backed g c =
    let s = c.args.self.now in
    let u = parts_of.shown_parts s.parts in
    ap (λ (x : Record). is_backed x.backing) c.look-home.ensures ∙ write_backed u.life s.parts.kept.reached u.bytes _ _ s.located c.args.f (is_writing u.life c.args.f c.requires.legal)

pub put_page-ok-requires-clause-slot : goal.put_page-ok-requires-clause-slot
put_page-ok-requires-clause-slot g c =
    let s = c.args.self.now in
    let u = parts_of.shown_parts s.parts in
    λ n e. slot_there u.life s.parts.kept.reached u.bytes _ _ s.located c.args.f n (sym (ap (λ (x : Record). slot_of x.backing) c.look-home.ensures) ∙ e)

pub put_page-ok-requires-clause-block : goal.put_page-ok-requires-clause-block
put_page-ok-requires-clause-block g c =
    let s = c.args.self.now in
    let u = parts_of.shown_parts s.parts in
    λ n e. block_there u.life s.parts.kept.reached u.bytes _ _ s.located c.args.f n (sym (ap (λ (x : Record). block_of x.backing) c.look-home.ensures) ∙ e)

pub end_write-requires : goal.end_write-requires
end_write-requires g c = record { legal = write_legal c.put_page-ok.result (parts_of.shown_parts c.args.self.now.parts).life c.args.f c.requires.legal }

pub invariant_of-self : goal.invariant_of-self
invariant_of-self g c =
    let s = c.args.self.now in
    let ok = c.put_page-ok.result in
    let page = c.page-page.result.now in
    let home = ap (λ (x : Record). x.backing) c.look-home.ensures in
    let n = c.bytes_hold.ensures.whole c.args.f.0 page c.page-page.ensures in
    record {
      located = located_moved _ _ _ _ _ c.end_write.ensures.made (write_carries c.put_page-ok.result _ s.parts.kept.reached _ _ _ s.located c.args.f c.page-page.result.now c.requires.legal c.page-page.ensures _ home _ _ c.put_page-ok.ensures.slots c.put_page-ok.ensures.blocks);
      tallied = subst IsTallied (sym c.wrote.ensures) (tallied_write s.told ok c.look-home.result.backing s.tallied);
      slots_whole = slots_whole page n ok c.look-home.result.backing _ _ c.put_page-ok.ensures.slots s.slots_whole;
      blocks_whole = blocks_whole page n ok c.look-home.result.backing _ _ c.put_page-ok.ensures.blocks s.blocks_whole;
    }

pub returns-clause-made : goal.returns-clause-made
returns-clause-made g c =
    let e = c.end_write.ensures.made in
    let put = c.put_page-ok.ensures in
    made_by_write c.put_page-ok.result c.args.f c.page-page.result.now _ _ _ (ap (λ (x : Record). x.backing) c.look-home.ensures) c.requires.legal
    (ranged_at _ _ c.write_move.ensures c.note.ensures.in_range) (noted_at _ _ _ _ c.write_move.ensures c.note.ensures.grew)
    (ap (λ (x : PartsOf). x.life) e) (ap (λ (x : PartsOf). x.ages) e) (ap (λ (x : PartsOf). waits_of x.waits) e)
    c.wrote.ensures put.called put.slots put.blocks

pub returns-clause-rest : goal.returns-clause-rest
returns-clause-rest g c =
    let s = c.args.self.now in
    let home = ap (λ (x : Record). x.backing) c.look-home.ensures in
    rest_of _ _ _ _ _ _ _ _ _ c.end_write.ensures.made (write_carries c.put_page-ok.result _ s.parts.kept.reached _ _ _ s.located c.args.f c.page-page.result.now c.requires.legal c.page-page.ensures _ home _ _ c.put_page-ok.ensures.slots c.put_page-ok.ensures.blocks)

pub returns-clause-wrote : goal.returns-clause-wrote
returns-clause-wrote g c =
    let s = c.args.self.now in
    let u = parts_of.shown_parts s.parts in
    let ok = c.put_page-ok.result in
    let slots = g.P.Inject.blocks s.paging in
    let blocks = g.F.Inject.blocks s.files in
    λ k page owner content.
    let own = page_of_key u.life s.parts.kept.reached u.bytes slots blocks s.located c.args.f k owner (write_calm u.life c.args.f c.requires.legal) in
    let same = same_page c.page-page.result.now page (sym c.page-page.ensures ∙ sym own ∙ content) in
    record {
      slots_are = c.put_page-ok.ensures.slots ∙ (λ i. written_if ok (slots_written (c.look-home.ensures i).backing (same i)) slots);
      blocks_are = c.put_page-ok.ensures.blocks ∙ (λ i. written_if ok (blocks_written (c.look-home.ensures i).backing (same i)) blocks);
    }

pub returns-clause-ownerless : goal.returns-clause-ownerless
returns-clause-ownerless g c =
    let s = c.args.self.now in
    let u = parts_of.shown_parts s.parts in
    let ok = c.put_page-ok.result in
    let page = c.page-page.result.now in
    let blocks = g.F.Inject.blocks s.files in
    λ none. c.put_page-ok.ensures.blocks ∙ ap (λ (x : Record). written_if ok (blocks_written x.backing page) blocks) c.look-home.ensures
    ∙ no_block u.life s.parts.kept.reached c.args.f none ok page blocks
