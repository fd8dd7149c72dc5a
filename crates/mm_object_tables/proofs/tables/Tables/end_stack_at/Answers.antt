use Rattle.mm_object_tables.proofs.{shown_with, kept_beside}
use Rattle.mm_object_tables.proofs.tables.Tables.end_stack_at.Goals as goal

pub invariant_of-self : goal.invariant_of-self
invariant_of-self c = kept_beside (shown_with c.self.inside c.self.inside.processes.items) _ c.self.inside.directory.entries c.self.inside.commit c.self.invariant
