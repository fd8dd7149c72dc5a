use Rattle.std.proofs.Common.{refl, sym, ap, ◌∙◌, subst}
use Rattle.mm_types.specs.{Record}
use Rattle.mm_move_rules.specs.{record_at, slot_of, is_read}
use Rattle.mm_move_laws.specs.{is_backed, block_of}
use Rattle.mm_parts.specs.{PartsOf, waits_of}
use Rattle.mm_parts.specs.PartsShown as parts_of
use Rattle.mm_frame_laws.proofs.{read_backed, slot_there, block_there}
use Rattle.mm_state.specs.{IsTallied}
use Rattle.mm_state.proofs.{made_by_read, rest_called, carried_on, tallied_read, whole_on, read_low, is_reading, read_carries, read_waits, read_quiet}
use Rattle.mm_state.proofs.{noted_at, ranged_at}
use Rattle.mm_state.proofs.calls.StateStateCalls.end_read.Goals as goal

pub look-r-requires : goal.look-r-requires
look-r-requires g c = let s = c.args.self.now in read_low (parts_of.shown_parts s.parts).life s.parts.kept.reached c.args.f c.requires.legal

pub read_page-ok-requires-clause-backed : goal.read_page-ok-requires-clause-backed
read_page-ok-requires-clause-backed g c =
    let s = c.args.self.now in
    let u = parts_of.shown_parts s.parts in
    ap (λ (x : Record). is_backed x.backing) c.look-r.ensures ∙ read_backed u.life s.parts.kept.reached u.bytes _ _ s.located c.args.f (is_reading u.life c.args.f c.requires.legal)

pub read_page-ok-requires-clause-there : goal.read_page-ok-requires-clause-there
read_page-ok-requires-clause-there g c =
    let s = c.args.self.now in
    let u = parts_of.shown_parts s.parts in (
      (λ n e. slot_there u.life s.parts.kept.reached u.bytes _ _ s.located c.args.f n (sym (ap (λ (x : Record). slot_of x.backing) c.look-r.ensures) ∙ e)),
      (λ n e. block_there u.life s.parts.kept.reached u.bytes _ _ s.located c.args.f n (sym (ap (λ (x : Record). block_of x.backing) c.look-r.ensures) ∙ e)),
    )

pub invariant_of-self : goal.invariant_of-self
invariant_of-self g c =
    let s = c.args.self.now in
    let u = parts_of.shown_parts s.parts in
    let ok = c.read_page-ok.result in
    let now = carried_on _ _ _ _ _ _ _ c.read_page-ok.ensures.shown c.read_page-ok.ensures.blocks.0 c.read_page-ok.ensures.blocks.1
    (read_carries ok u.life s.parts.kept.reached u.bytes (g.P.Inject.blocks s.paging) (g.F.Inject.blocks s.files) s.located c.args.f c.look-r.result.backing (ap (λ (x : Record). x.backing) c.look-r.ensures) c.requires.legal c.read_page-ok.ensures.page) in
    let backed = ap (λ (x : Record). is_backed x.backing) c.look-r.ensures ∙ read_backed u.life s.parts.kept.reached u.bytes _ _ s.located c.args.f (is_reading u.life c.args.f c.requires.legal) in
    record { located = now.located; tallied = subst IsTallied (sym c.read.ensures) (tallied_read s.told ok c.look-r.result.backing c.look-r.result.owner backed s.tallied); slots_whole = whole_on _ _ c.read_page-ok.ensures.blocks.0 s.slots_whole; blocks_whole = whole_on _ _ c.read_page-ok.ensures.blocks.1 s.blocks_whole }

pub returns-clause-made : goal.returns-clause-made
returns-clause-made g c =
    let u = parts_of.shown_parts c.args.self.now.parts in
    let e = c.read_page-ok.ensures.shown in
    made_by_read c.read_page-ok.result c.args.f _ _ _ c.look-r.ensures c.requires.legal
    (ranged_at _ _ c.read_move.ensures c.note.ensures.in_range) (noted_at _ _ _ _ c.read_move.ensures c.note.ensures.grew)
    (ap (λ (x : PartsOf). x.life) e) (ap (λ (x : PartsOf). x.ages) e)
    (ap (λ (x : PartsOf). waits_of x.waits) e ∙ read_waits c.read_page-ok.result c.args.f u.waits)
    c.read.ensures c.read_page-ok.ensures.called c.read_page-ok.ensures.blocks.0 c.read_page-ok.ensures.blocks.1

pub returns-clause-rest : goal.returns-clause-rest
returns-clause-rest g c =
    let s = c.args.self.now in
    rest_called _ _ _ _ _ _ _ _ _ _ _ _ c.read_page-ok.ensures.shown refl c.read_page-ok.ensures.blocks.0 c.read_page-ok.ensures.blocks.1
    (read_carries c.read_page-ok.result _ s.parts.kept.reached _ _ _ s.located c.args.f c.look-r.result.backing (ap (λ (x : Record). x.backing) c.look-r.ensures) c.requires.legal c.read_page-ok.ensures.page)

pub returns-clause-quiet : goal.returns-clause-quiet
returns-clause-quiet g c =
    let s = c.args.self.now in
    let u = parts_of.shown_parts s.parts in
    λ done.
    ap (λ (x : PartsOf). is_read (record_at x.life.frames c.args.f.0).request) c.read_page-ok.ensures.shown
    ∙ read_quiet u.life s.parts.kept.reached c.read_page-ok.result c.args.f c.requires.legal done
