use Rattle.mm_world.proofs.{access_charge}
use Rattle.mm_world.proofs.laws.accesses_keep_the_charge.Goals as goal

pub returns : goal.returns
returns c = access_charge
