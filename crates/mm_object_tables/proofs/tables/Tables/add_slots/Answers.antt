use Rattle.std.proofs.Common.{◌≤◌, ◌+◌, sym, ap, subst, arith}
use Rattle.mm_types.specs.{MachineOf}
use Rattle.mm_world.specs.{Tables, most_slots}
use Rattle.mm_object_tables.specs.{shown_processes, tables_with, shown_accesses, AreKeptTables}
use Rattle.mm_object_tables.proofs.{slots_kept}
use Rattle.mm_object_tables.proofs.tables.Tables.add_slots.Goals as goal

pub invariant_of-self : goal.invariant_of-self
invariant_of-self c =
    let i = c.self.inside in
    let m : MachineOf = i.machine in
    let room : m.slots + c.args.n ≤ most_slots = omega (arith, ap (λ (t : Tables). t.machine.slots) c.self.view_is, c.requires.most) in
    subst (λ (m : MachineOf). AreKeptTables (tables_with m (shown_processes i.processes.items) i.directory.entries i.areas.items i.directory.files i.blocks_used i.fails_taken (shown_accesses i.kept) i.stacks) i.directory.entries c.raise.new.self) (sym c.with_slots-self-inside.ensures.made)
    (slots_kept (tables_with m (shown_processes i.processes.items) i.directory.entries i.areas.items i.directory.files i.blocks_used i.fails_taken (shown_accesses i.kept) i.stacks) c.args.n i.directory.entries i.commit c.raise.new.self c.self.invariant room c.with_slots-self-inside.ensures.limit c.raise.ensures)
