use Rattle.mm_world.proofs.Limit.{in_alloc, in_protect, in_create, in_map, in_stack}
use Rattle.mm_world.proofs.{never_refused}
use Rattle.mm_world.proofs.laws.commitment_is_refused_exactly_past_the_limit.Goals as goal

pub returns : goal.returns
returns c = record {
  alloc = in_alloc;
  protect = in_protect;
  create = in_create;
  map = in_map;
  stack = in_stack;
  others = never_refused;
}
