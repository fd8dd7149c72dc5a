use Rattle.mm_world.proofs.{stays_stacked, first_stacked}
use Rattle.mm_world.proofs.laws.stacks_stay_private_regions.Goals as goal

pub returns : goal.returns
returns c = record {
  kept = stays_stacked;
  first = first_stacked;
}
