use Rattle.mm_frame_laws.proofs.{walk_in, walk_failed_in, walk_wrote_in, walk_ends_in, turn_in, turn_wrote_in, turn_failed_in}
use Rattle.mm_frame_laws.proofs.searches.searches_keep_their_order.Goals as goal

pub returns : goal.returns
returns c = record {
  begins = walk_in;
  walk_failed = walk_failed_in;
  walk_wrote = walk_wrote_in;
  walk_ends = walk_ends_in;
  turn = turn_in;
  turn_wrote = turn_wrote_in;
  turn_failed = turn_failed_in;
}
