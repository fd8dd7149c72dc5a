use Rattle.mm_unpaged.proofs.{failed_write}
use Rattle.mm_unpaged.proofs.files.write_block.Goals as goal

pub returns-clause-blamed : goal.returns-clause-blamed
returns-clause-blamed g c = failed_write c.write-done.result c.args.block _ _ _ c.write-done.ensures.served
