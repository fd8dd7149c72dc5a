use Rattle.std.proofs.Common.{arith}
use Rattle.mm_world.specs.{unless}
use Rattle.mm_object_tables.specs.{is_stack_of}
use Rattle.mm_object_tables.proofs.{one_more, unless_all}
use Rattle.mm_object_tables.proofs.thread_stacks.drop_ended.Goals as goal

pub loop-tid-preserved : goal.loop-tid-preserved
loop-tid-preserved c = one_more (unless (is_stack_of c.args.pid.0 c.args.addr)) c.args.places.now c.loop-tid.places c.loop-tid.tid _ c.unless_ended.result (omega (arith, c.told-places)) c.loop-tid.invariant c.unless_ended.ensures

pub returns : goal.returns
returns c = unless_all (is_stack_of c.args.pid.0 c.args.addr) c.args.end c.loop-tid.tid c.args.places.now c.loop-tid.places (omega (arith, c.loop-tid-test.false)) c.requires.below c.loop-tid.invariant
