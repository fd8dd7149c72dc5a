use Rattle.mm_frame_laws.proofs.{sized, others_sized, trim_legal, full_legal}
use Rattle.mm_frame_laws.proofs.steps.sets_shrink_by_one.Goals as goal

pub returns : goal.returns
returns c = record {
  trim = λ l place f t a there. trim_legal l place f there t a;
  full = λ l place f t a there. full_legal l place f there t a;
  one = sized;
  others = others_sized;
}
