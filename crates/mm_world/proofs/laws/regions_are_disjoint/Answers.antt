use Rattle.mm_world.proofs.{same_place, is_placed}
use Rattle.mm_world.proofs.laws.regions_are_disjoint.Goals as goal

pub returns : goal.returns
returns c = record {
  apart = same_place;
  placed = is_placed;
}
