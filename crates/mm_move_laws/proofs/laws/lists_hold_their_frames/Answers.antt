use Rattle.mm_move_laws.proofs.{zeroed_bare, free_bare, standby_is, modified_is}
use Rattle.mm_move_laws.proofs.laws.lists_hold_their_frames.Goals as goal

pub returns : goal.returns
returns c = record {
  zeroed = zeroed_bare;
  free = free_bare;
  standby = standby_is;
  modified = modified_is;
}
