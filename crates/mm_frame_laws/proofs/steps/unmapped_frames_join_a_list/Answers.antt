use Rattle.mm_frame_laws.proofs.{unmapped, unmapped_clean, unmapped_changed}
use Rattle.mm_frame_laws.proofs.steps.unmapped_frames_join_a_list.Goals as goal

pub returns : goal.returns
returns c = record {
  unmapped = unmapped;
  clean = unmapped_clean;
  changed = unmapped_changed;
}
