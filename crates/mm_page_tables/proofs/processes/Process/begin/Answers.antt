use Rattle.mm_page_tables.proofs.{begin_kept}
use Rattle.mm_page_tables.proofs.processes.Process.begin.Goals as goal

pub invariant_of-result : goal.invariant_of-result
invariant_of-result c = record { kept = begin_kept c.new.result c.unreserved.result c.args.min c.args.max c.new.ensures c.unreserved.ensures }
