use Rattle.std.proofs.Common.{ap, arith}
use Rattle.mm_world.specs.{Tables}
use Rattle.mm_object_tables.specs.{shown_processes, tables_with, shown_accesses}
use Rattle.mm_object_tables.proofs.{fail_kept}
use Rattle.mm_object_tables.proofs.tables.Tables.take_fail.Goals as goal

pub invariant_of-self : goal.invariant_of-self
invariant_of-self c =
    let i = c.self.inside in
    fail_kept (tables_with i.machine (shown_processes i.processes.items) i.directory.entries i.areas.items i.directory.files i.blocks_used i.fails_taken (shown_accesses i.kept) i.stacks) i.directory.entries i.commit c.self.invariant
    (omega (arith, c.requires.most, ap (λ (t : Tables). t.fails_taken) c.self.view_is))
