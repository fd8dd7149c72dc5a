use Rattle.mm_calls.proofs.{succeeds}
use Rattle.mm_calls.proofs.stack_laws.growth_succeeds_in_the_region.Goals as goal

pub returns : goal.returns
returns c = λ w s p d h stands there more. succeeds w s p h stands d there more
