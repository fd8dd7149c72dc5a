use Rattle.std.proofs.Common.{sym, subst}
use Rattle.mm_object_tables.specs.{StandBelow, is_stack_of}
use Rattle.mm_object_tables.proofs.{below_too}
use Rattle.mm_object_tables.proofs.thread_stacks.Stacks.let_go.Goals as goal

pub invariant_of-self : goal.invariant_of-self
invariant_of-self c = subst (StandBelow c.self.inside.end) (sym c.drop_ended.ensures) (below_too (is_stack_of c.args.pid.0 c.args.addr) c.self.inside.end c.self.inside.places c.self.invariant)
