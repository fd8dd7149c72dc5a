use Rattle.mm_world.specs.{threads}
use Rattle.mm_object_tables.proofs.{none_yet}
use Rattle.mm_object_tables.proofs.thread_stacks.Stacks.new.Goals as goal

pub invariant_of-result : goal.invariant_of-result
invariant_of-result c = none_yet threads
