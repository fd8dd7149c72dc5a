use Rattle.std.proofs.Common.{refl}
use Rattle.mm_move_laws.proofs.bursts.a_call_passes_the_depth.Goals as goal

pub returns : goal.returns
returns c = record {
  depth = refl;
  in_flight = refl;
  waits = refl;
}
