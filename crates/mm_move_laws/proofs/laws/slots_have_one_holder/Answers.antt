use Rattle.mm_move_laws.proofs.{slot_free, slot_has, slot_one, slot_there, slot_taken}
use Rattle.mm_move_laws.proofs.laws.slots_have_one_holder.Goals as goal

pub returns : goal.returns
returns c = record {
  free = slot_free;
  held = slot_has;
  one = slot_one;
  there = slot_there;
  taken = slot_taken;
  slots = λ l s. s.slotted;
}
