use Rattle.mm_calls.proofs.{overflow_is, overflow_raised}
use Rattle.mm_calls.proofs.stack_laws.overflows_are_raised_where_nothing_is_left.Goals as goal

pub returns : goal.returns
returns c = λ w tid addr. (overflow_is w tid addr, overflow_raised w tid addr)
