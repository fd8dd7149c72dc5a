use Rattle.mm_world.proofs.{flags_told}
use Rattle.mm_world.proofs.laws.flags_change_as_told.Goals as goal

pub returns : goal.returns
returns c = flags_told
