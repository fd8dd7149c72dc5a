use Rattle.std.proofs.Common.{refl, sym, ap, ◌∙◌, subst}
use Rattle.mm_types.specs.{Record}
use Rattle.mm_types.specs.declared.moves.Move.TheVariants as move
use Rattle.mm_move_rules.specs.{changed, same_place}
use Rattle.mm_page_tables.specs.Shown as tables
use Rattle.mm_page_tables.specs.{WordsOf}
use Rattle.mm_parts.specs.{joined_parts, shown_parts, CanName, words_named, parts_after, left_by, names_after_map}
use Rattle.mm_parts.proofs.{Step, step_to, mappable, invalid_entry, shares_room, name_can, frame_low, map_any_step}
use Rattle.mm_parts.proofs.parts.Parts.map.Goals as goal
use Rattle.mm_parts.proofs.parts.Parts.map.Goals.{After-name_frame}

pub share-requires-clause-room : goal.share-requires-clause-room
share-requires-clause-room c = shares_room (joined_parts c.args.self.now) c.args.self.now.kept c.args.f.0

pub make_valid-requires-clause-invalid : goal.make_valid-requires-clause-invalid
make_valid-requires-clause-invalid c = invalid_entry ((joined_parts c.args.self.now).words.at c.args.place) (mappable (joined_parts c.args.self.now) c.args.f c.args.place c.requires.legal).invalid

pub make_valid-requires-clause-room : goal.make_valid-requires-clause-room
make_valid-requires-clause-room c = (mappable (joined_parts c.args.self.now) c.args.f c.args.place c.requires.legal).room

pub make_valid-requires-clause-fits : goal.make_valid-requires-clause-fits
make_valid-requires-clause-fits c = frame_low (joined_parts c.args.self.now) c.args.self.now.kept c.args.f.0 (mappable (joined_parts c.args.self.now) c.args.f c.args.place c.requires.legal).low

pub name_frame-requires : goal.name_frame-requires
name_frame-requires c =
    let s = c.args.self.now in
    let o = ap (λ (r : Record). r.owner) c.look-owner.ensures in
    subst (λ (w : WordsOf). CanName w c.look-owner.result.owner c.args.f) (sym c.make_valid.ensures.words)
    (name_can (joined_parts s) s.kept c.args.f c.args.place c.look-owner.result.owner (sym o) (mappable (joined_parts s) c.args.f c.args.place c.requires.legal).low c.words_hold.ensures.there)

made : (c : After-name_frame) → Step (record (joined_parts c.args.self.now) { table = c.share.new.self.table; bytes = c.share.new.self.bytes; words = tables.words c.name_frame.new.words; ages = tables.place_ages c.name_frame.new.words })
    (record (parts_after (shown_parts c.args.self.now) (move.Map c.args.f c.args.place)) {
      ages = changed same_place (shown_parts c.args.self.now).ages c.args.place 0;
      aside = left_by (shown_parts c.args.self.now).aside c.args.place;
      names = names_after_map (shown_parts c.args.self.now).life.frames (shown_parts c.args.self.now).names c.args.f c.args.place;
    })
made c =
    let s = c.args.self.now in
    let owner = ap (λ (r : Record). r.owner) c.look-owner.ensures in
    let words = c.name_frame.ensures.words ∙ (λ i. words_named (owner i) c.args.f (c.make_valid.ensures.words i)) in
    let ages = c.name_frame.ensures.ages ∙ c.make_valid.ensures.ages in
    step_to _ _ _ (λ i. record (joined_parts s) { table = (c.share.ensures i).table; bytes = (c.share.ensures i).bytes; words = words i; ages = ages i }) (map_any_step (joined_parts s) s.kept c.args.f c.args.place c.requires.legal c.requires.alone _ refl)

pub invariant_of-self : goal.invariant_of-self
invariant_of-self c = record { kept = (made (goal.at.invariant_of-self c).After-name_frame).kept }

pub returns : goal.returns
returns c = record { made = (made (goal.at.returns c).After-name_frame).shown }
