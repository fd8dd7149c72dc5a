use Rattle.mm_frame_laws.proofs.{turn_kept, turn_failed, turn_fewer, turn_failed_fewer}
use Rattle.mm_frame_laws.proofs.searches.places_are_unmapped_in_turn.Goals as goal

pub returns : goal.returns
returns c = record {
  kept = turn_kept;
  failed = turn_failed;
  fewer = turn_fewer;
  fewer_failed = turn_failed_fewer;
}
