use Rattle.mm_calls.proofs.{grows_there, there_grows}
use Rattle.mm_calls.proofs.stack_laws.stacks_grow_where_something_is_left.Goals as goal

pub returns : goal.returns
returns c = λ w tid addr s has above. (grows_there w tid addr s has, there_grows w tid addr s has above)
