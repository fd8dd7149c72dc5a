use Rattle.mm_frame_laws.proofs.{victim_found, none_found, oldest_found}
use Rattle.mm_frame_laws.proofs.victims.first_to_go_is_the_victim.Goals as goal

pub returns : goal.returns
returns c = record {
  victim = victim_found;
  none = none_found;
  oldest = oldest_found;
}
