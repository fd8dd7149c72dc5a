use Rattle.mm_world.proofs.{reached_within}
use Rattle.mm_world.proofs.laws.charge_stays_within_the_limit.Goals as goal

pub returns : goal.returns
returns c = reached_within
