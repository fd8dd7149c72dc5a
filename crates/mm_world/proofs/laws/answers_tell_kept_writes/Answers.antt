use Rattle.mm_world.proofs.{kept_writes_follow}
use Rattle.mm_world.proofs.laws.answers_tell_kept_writes.Goals as goal

pub returns : goal.returns
returns c = kept_writes_follow
