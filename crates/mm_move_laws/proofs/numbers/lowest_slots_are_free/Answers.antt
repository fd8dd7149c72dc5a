use Rattle.mm_move_laws.proofs.{lowest_is, lowest_from, lowest_one, lowest_there, lowest_nowhere, lowest_taken, free_counted}
use Rattle.mm_move_laws.proofs.numbers.lowest_slots_are_free.Goals as goal

pub returns : goal.returns
returns c = record {
  is = lowest_is;
  back = λ free s low. lowest_from free s low.is_free low.below;
  one = lowest_one;
  some = lowest_there;
  none = lowest_nowhere;
  taken = lowest_taken;
  counted = free_counted;
}
