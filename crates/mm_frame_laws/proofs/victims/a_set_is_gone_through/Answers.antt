use Rattle.mm_frame_laws.proofs.{next_oldest, next_passed, none_next}
use Rattle.mm_frame_laws.proofs.victims.a_set_is_gone_through.Goals as goal

pub returns : goal.returns
returns c = record {
  oldest = next_oldest;
  passed = next_passed;
  none = none_next;
}
