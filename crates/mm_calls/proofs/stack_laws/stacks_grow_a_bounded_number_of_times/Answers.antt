use Rattle.mm_calls.proofs.{bounded, made_bounded}
use Rattle.mm_calls.proofs.stack_laws.stacks_grow_a_bounded_number_of_times.Goals as goal

pub returns-clause-made : goal.returns-clause-made
returns-clause-made c = made_bounded

pub returns-clause-left : goal.returns-clause-left
returns-clause-left c = bounded
