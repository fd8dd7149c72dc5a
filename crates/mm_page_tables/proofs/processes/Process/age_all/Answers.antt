use Rattle.mm_page_tables.proofs.{older_kept}
use Rattle.mm_page_tables.proofs.processes.Process.age_all.Goals as goal

pub invariant_of-self : goal.invariant_of-self
invariant_of-self c = record { kept = older_kept c.args.self.now.table c.args.self.now.set c.args.self.now.is_open c.args.self.now.kept c.age_all.new.self c.age_all.ensures.rest c.age_all.ensures.ages }
