use Rattle.mm_calls.proofs.{above_the_base, told}
use Rattle.mm_calls.proofs.stack_laws.growth_stays_above_the_base_page.Goals as goal

pub returns-clause-above : goal.returns-clause-above
returns-clause-above c = λ w tid addr guard s has. above_the_base w tid addr s has guard

pub returns-clause-told : goal.returns-clause-told
returns-clause-told c = told
