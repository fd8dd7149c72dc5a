use Rattle.std.proofs.Common.{arith}
use Rattle.mm_types.specs.{end_of_user_pages}
use Rattle.mm_store.specs.{leaving, page_rank}
use Rattle.mm_object_tables.proofs.{for_own}
use Rattle.mm_object_tables.proofs.tables.Tables.drop_handle.Goals as goal

pub returns-clause-passes : goal.returns-clause-passes
returns-clause-passes g c places =
    c.close_handle.ensures.passes (leaving c.args.self.now c.args.pid.0 places) 1 (page_rank end_of_user_pages)
    (for_own c.args.self.now c.args.pid.0 c.sound.ensures.tidy) (omega arith) (omega arith)
