use Rattle.mm_page_tables.proofs.{unbind_kept}
use Rattle.mm_page_tables.proofs.processes.Process.unbind.Goals as goal

pub invariant_of-self : goal.invariant_of-self
invariant_of-self c = record { kept = unbind_kept c.args.self.now.table c.args.self.now.set c.args.self.now.is_open c.args.self.now.kept c.release.new.self c.args.first.0 c.args.n c.release.ensures c.requires.invalid }
