use Rattle.mm_move_rules.specs.{record_at}
use Rattle.mm_pfn_database.proofs.{owned_used, page_written}
use Rattle.mm_pfn_database.proofs.frames.Frames.read.Goals as goal

pub read-requires-clause-written : goal.read-requires-clause-written
read-requires-clause-written c =
    page_written c.self.invariant c.self.view_is c.args.f.0 (owned_used (record_at c.args.self.now.table c.args.f.0) c.requires.owned) c.requires.not_read
