use Rattle.mm_move_laws.proofs.{counts_homes, free_and_taken}
use Rattle.mm_move_laws.proofs.numbers.keys_and_slots_are_counted.Goals as goal

pub returns : goal.returns
returns c = record {
  homes = counts_homes;
  slots = free_and_taken;
}
