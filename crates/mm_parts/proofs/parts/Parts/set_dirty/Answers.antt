use Rattle.std.proofs.Common.{◌≡◌, Bool, List, ap, ◌∙◌}
use Rattle.mm_types.specs.declared.moves.Move.TheVariants as move
use Rattle.mm_move_rules.specs.{record_at, slot_after_soil, freed}
use Rattle.mm_slots.specs.{SlotsOf}
use Rattle.mm_parts.specs.{joined_parts, shown_parts, parts_after}
use Rattle.mm_parts.proofs.{Step, step_to, soil_step}
use Rattle.mm_parts.proofs.parts.Parts.set_dirty.Goals as goal
use Rattle.mm_parts.proofs.parts.Parts.set_dirty.Goals.{After-set_dirty, After-put_back}

made : (c : After-set_dirty) {free : List Bool} → free ≡ freed c.args.self.now.slots.free (slot_after_soil (record_at c.args.self.now.frames.table c.args.f.0))
    → Step (record (joined_parts c.args.self.now) { table = c.set_dirty.new.self.table; bytes = c.set_dirty.new.self.bytes; free = free }) (parts_after (shown_parts c.args.self.now) (move.Soil c.args.f))
made c free =
    let s = c.args.self.now in
    step_to _ _ _ (λ i. record (joined_parts s) { table = (c.set_dirty.ensures.soiled i).table; bytes = (c.set_dirty.ensures.soiled i).bytes; free = free i }) (soil_step (joined_parts s) s.kept c.args.f c.requires.legal)

given : (c : After-put_back) → c.put_back.new.self.free ≡ freed c.args.self.now.slots.free (slot_after_soil (record_at c.args.self.now.frames.table c.args.f.0))
given c = ap (λ (v : SlotsOf). v.free) c.put_back.ensures ∙ ap (freed c.args.self.now.slots.free) c.in-Some.ensures.slot

pub invariant_of-self : goal.invariant_of-self
invariant_of-self c = record { kept = (made (goal.at.invariant_of-self c).After-set_dirty (given (goal.at.invariant_of-self c).After-put_back)).kept }

pub returns-in-Some : goal.returns-in-Some
returns-in-Some c = record { made = (made (goal.at.returns-in-Some c).After-set_dirty (given (goal.at.returns-in-Some c).After-put_back)).shown }

pub invariant_of-self-in_default : goal.invariant_of-self-in_default
invariant_of-self-in_default c = record { kept = (made (goal.at.invariant_of-self-in_default c).After-set_dirty (ap (freed c.args.self.now.slots.free) c.in_default.ensures.slot)).kept }

pub returns-in_default : goal.returns-in_default
returns-in_default c = record { made = (made (goal.at.returns-in_default c).After-set_dirty (ap (freed c.args.self.now.slots.free) c.in_default.ensures.slot)).shown }
