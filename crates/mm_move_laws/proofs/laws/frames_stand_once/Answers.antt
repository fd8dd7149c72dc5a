use Rattle.mm_move_laws.proofs.{once, no_other, counted}
use Rattle.mm_move_laws.proofs.laws.frames_stand_once.Goals as goal

pub returns : goal.returns
returns c = record {
  once = once;
  no_other = no_other;
  counted = counted;
}
