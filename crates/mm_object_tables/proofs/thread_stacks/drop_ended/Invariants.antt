use Rattle.std.specs.Prelude.{◌≡◌, ◌++◌, map, take, drop}
use Rattle.mm_world.specs.{unless}
use Rattle.mm_object_tables.specs.{is_stack_of}
use Rattle.mm_object_tables.proofs.thread_stacks.drop_ended.Given as goal

abbrev pub invariant-loop-tid : goal.invariant-loop-tid
invariant-loop-tid l = l.places ≡ map (unless (is_stack_of l.pid.0 l.addr)) (take l.tid l.fn.places) ++ drop l.tid l.fn.places
