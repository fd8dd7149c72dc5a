use Rattle.mm_frame_laws.proofs.{walk_begins, walk_on, walk_passes, walk_passes_all, walk_fails, walk_then}
use Rattle.mm_frame_laws.proofs.searches.the_modified_list_is_walked.Goals as goal

pub returns : goal.returns
returns c = record {
  begins = walk_begins;
  listed = walk_on;
  passes = walk_passes;
  passes_all = walk_passes_all;
  fails = walk_fails;
  ends = walk_then;
}
