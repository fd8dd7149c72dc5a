use Rattle.mm_frame_laws.proofs.{oldest_next, none_next_in}
use Rattle.mm_frame_laws.proofs.victims.sets_go_by_age.Goals as goal

pub returns : goal.returns
returns c = record {
  next = oldest_next;
  none = none_next_in;
}
