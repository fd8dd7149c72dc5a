use Rattle.mm_parts.proofs.{waits_ended}
use Rattle.mm_parts.proofs.laws.waits_end_as_walks_have_it.Goals as goal

pub returns : goal.returns
returns c = waits_ended
