use Rattle.mm_run.proofs.{watches_told}
use Rattle.mm_run.proofs.laws.watches_give_written_pages.Goals as goal

pub returns : goal.returns
returns c = watches_told
