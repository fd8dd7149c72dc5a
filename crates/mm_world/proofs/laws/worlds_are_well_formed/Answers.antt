use Rattle.mm_world.proofs.{line_keeps, reached_is}
use Rattle.mm_world.proofs.laws.worlds_are_well_formed.Goals as goal

pub returns : goal.returns
returns c = record {
  kept = line_keeps;
  reached = reached_is;
}
