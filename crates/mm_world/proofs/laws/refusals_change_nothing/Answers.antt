use Rattle.mm_world.proofs.{step_leaves}
use Rattle.mm_world.proofs.laws.refusals_change_nothing.Goals as goal

pub returns : goal.returns
returns c = step_leaves
