use Rattle.mm_world.proofs.{watch_gives_flagged}
use Rattle.mm_world.proofs.laws.watches_give_flagged_pages.Goals as goal

pub returns : goal.returns
returns c = watch_gives_flagged
