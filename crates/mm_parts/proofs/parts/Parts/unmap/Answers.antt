use Rattle.std.proofs.Common.{◌≡◌, Some, sym, ap, ◌∙◌}
use Rattle.std.specs.Prelude.{◌==◌, is_some}
use Rattle.mm_types.specs.{Record}
use Rattle.mm_types.specs.declared.moves.Move.TheVariants as move
use Rattle.mm_move_rules.specs.{record_at, changed, same_place}
use Rattle.mm_page_tables.specs.Shown as tables
use Rattle.mm_parts.specs.{joined_parts, shown_parts, parts_after}
use Rattle.mm_parts.proofs.{Step, step_to, Leaving, leaving_told, leave_can, unmap_any_step}
use Rattle.mm_parts.proofs.parts.Parts.unmap.Goals as goal
use Rattle.mm_parts.proofs.parts.Parts.unmap.Goals.{After-leave_place}

pub look-r-requires : goal.look-r-requires
look-r-requires c = (leaving_told (joined_parts c.args.self.now) c.args.self.now.kept c.in-Valid.f c.in-Valid.field-1 c.args.place c.at.result c.at.ensures c.in-Valid.is).low

pub unshare-requires : goal.unshare-requires
unshare-requires c = (leaving_told (joined_parts c.args.self.now) c.args.self.now.kept c.in-Valid.f c.in-Valid.field-1 c.args.place c.at.result c.at.ensures c.in-Valid.is).some

pub unwrap-key-requires : goal.unwrap-key-requires
unwrap-key-requires c =
    let s = c.args.self.now in
    ap (λ (r : Record). is_some r.owner) c.look-r.ensures ∙ (leaving_told (joined_parts s) s.kept c.in-Valid.f c.in-Valid.field-1 c.args.place c.at.result c.at.ensures c.in-Valid.is).owned

pub leave_place-requires-clause-can : goal.leave_place-requires-clause-can
leave_place-requires-clause-can c =
    let s = c.args.self.now in
    let f = c.in-Valid.f in
    let l : Leaving (joined_parts s) f c.args.place = leaving_told (joined_parts s) s.kept f c.in-Valid.field-1 c.args.place c.at.result c.at.ensures c.in-Valid.is in
    let owner : (record_at s.frames.table f.0).owner ≡ Some c.unwrap-key.result = sym (ap (λ (r : Record). r.owner) c.look-r.ensures) ∙ c.unwrap-key.ensures in
    leave_can (joined_parts s) s.kept f c.unwrap-key.result owner l.low c.words_hold.ensures.there

made : (c : After-leave_place) → Step (record (joined_parts c.args.self.now) { table = c.unshare.new.self.table; bytes = c.unshare.new.self.bytes; words = tables.words c.leave_place.new.words; ages = tables.place_ages c.leave_place.new.words })
    (record (parts_after (shown_parts c.args.self.now) (move.Unmap c.args.place)) { ages = changed same_place (shown_parts c.args.self.now).ages c.args.place 0 })
made c =
    let s = c.args.self.now in
    let f = c.in-Valid.f in
    let l : Leaving (joined_parts s) f c.args.place = leaving_told (joined_parts s) s.kept f c.in-Valid.field-1 c.args.place c.at.result c.at.ensures c.in-Valid.is in
    let owner : (record_at s.frames.table f.0).owner ≡ Some c.unwrap-key.result = sym (ap (λ (r : Record). r.owner) c.look-r.ensures) ∙ c.unwrap-key.ensures in
    let last : ((record_at s.frames.table f.0).shares == 1) ≡ (c.look-r.result.shares == 1) = ap (λ (r : Record). r.shares == 1) (sym c.look-r.ensures) in
    step_to _ _ _ (λ i. record (joined_parts s) { table = (c.unshare.ensures i).table; bytes = (c.unshare.ensures i).bytes; words = c.leave_place.ensures.words i; ages = c.leave_place.ensures.ages i }) (unmap_any_step (joined_parts s) s.kept f c.args.place c.unwrap-key.result c.requires.legal l owner (c.look-r.result.shares == 1) last)

pub invariant_of-self : goal.invariant_of-self
invariant_of-self c = record { kept = (made (goal.at.invariant_of-self c).After-leave_place).kept }

pub returns : goal.returns
returns c = record { made = (made (goal.at.returns c).After-leave_place).shown }
