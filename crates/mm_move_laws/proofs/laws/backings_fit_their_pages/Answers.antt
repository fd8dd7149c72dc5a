use Rattle.mm_move_laws.proofs.{file_backed, changed_slotless, ownerless_unblocked}
use Rattle.mm_move_laws.proofs.laws.backings_fit_their_pages.Goals as goal

pub returns : goal.returns
returns c = record {
  file = file_backed;
  changed = changed_slotless;
  ownerless = ownerless_unblocked;
}
