use Rattle.std.proofs.Common.{◌≡◌, ℕ, Some, refl, sym, ap, ◌∙◌, subst}
use Rattle.mm_types.specs.{Frame}
use Rattle.mm_types.specs.declared.moves.Move.TheVariants as move
use Rattle.mm_page_tables.specs.Shown as tables
use Rattle.mm_page_tables.specs.{IsEntry, with_entry, keeps_places}
use Rattle.mm_move_rules.specs.{record_at, after_steal}
use Rattle.mm_pfn_database.specs.{FramesOf, standby_taken, free_put}
use Rattle.mm_parts.specs.{joined_parts, shown_parts, front, home_entry, parts_after}
use Rattle.mm_parts.proofs.{front_is, stolen_table, Step, step_to, steal_can, steal_step}
use Rattle.mm_parts.proofs.parts.Parts.repurpose.Goals as goal
use Rattle.mm_parts.proofs.parts.Parts.repurpose.Goals.{After-set_word}

pub set_word-requires-clause-has : goal.set_word-requires-clause-has
set_word-requires-clause-has c =
    let s = c.args.self.now in
    c.words_hold.ensures.there c.in-Some.stolen.key (steal_can (joined_parts s) s.kept c.requires.legal c.in-Some.stolen.dirty c.in-Some.stolen.key (sym c.in-Some.ensures.first) c.in-Some.ensures.key).there

pub set_word-requires-clause-fits : goal.set_word-requires-clause-fits
set_word-requires-clause-fits c =
    let s = c.args.self.now in
    subst IsEntry (ap home_entry c.in-Some.ensures.backing ∙ sym c.home.ensures) (steal_can (joined_parts s) s.kept c.requires.legal c.in-Some.stolen.dirty c.in-Some.stolen.key (sym c.in-Some.ensures.first) c.in-Some.ensures.key).fits

pub set_word-requires-clause-places : goal.set_word-requires-clause-places
set_word-requires-clause-places c =
    let s = c.args.self.now in
    ap (keeps_places (joined_parts s).words c.in-Some.stolen.key) (c.home.ensures ∙ ap home_entry (sym c.in-Some.ensures.backing)) ∙ (steal_can (joined_parts s) s.kept c.requires.legal c.in-Some.stolen.dirty c.in-Some.stolen.key (sym c.in-Some.ensures.first) c.in-Some.ensures.key).places

made : (c : After-set_word) → Step (record (joined_parts c.args.self.now) { table = c.put_free.new.self.table; bytes = c.put_free.new.self.bytes; words = tables.words c.set_word.new.self; ages = tables.place_ages c.set_word.new.self })
    (parts_after (shown_parts c.args.self.now) (move.Steal (front c.args.self.now.frames.table.standby)))
made c =
    let s = c.args.self.now in
    let f = front s.frames.table.standby in
    let dirty = c.in-Some.stolen.dirty in
    let key = c.in-Some.stolen.key in
    let first = sym c.in-Some.ensures.first in
    let is : dirty ≡ f.0 = ap (λ (x : Frame). x.0) (front_is s.frames.table.standby dirty (record { 0 = dirty }) first refl) in
    let owner : (record_at s.frames.table f.0).owner ≡ Some key = ap (λ (x : ℕ). (record_at s.frames.table x).owner) (sym is) ∙ c.in-Some.ensures.key in
    let backing : c.in-Some.stolen.backing ≡ (record_at s.frames.table f.0).backing = sym c.in-Some.ensures.backing ∙ ap (λ (x : ℕ). (record_at s.frames.table x).backing) is in
    let now : c.put_free.new.self ≡ free_put (standby_taken s.frames) dirty = c.put_free.ensures ∙ ap (λ (v : FramesOf). free_put v dirty) c.take_standby.ensures.taken in
    let table : c.put_free.new.self.table ≡ after_steal s.frames.table f.0 = ap (λ (v : FramesOf). v.table) now ∙ stolen_table s.frames dirty first ∙ ap (λ (x : ℕ). after_steal s.frames.table x) is in
    let words = c.set_word.ensures.words ∙ ap (with_entry (joined_parts s).words key) (c.home.ensures ∙ ap home_entry backing) in
    step_to _ _ _ (λ i. record (joined_parts s) { table = table i; bytes = (now i).bytes; words = words i; ages = c.set_word.ensures.ages i }) (steal_step (joined_parts s) s.kept f key c.requires.legal owner)

pub invariant_of-self : goal.invariant_of-self
invariant_of-self c = record { kept = (made (goal.at.invariant_of-self c).After-set_word).kept }

pub returns : goal.returns
returns c = record { made = (made (goal.at.returns c).After-set_word).shown }
