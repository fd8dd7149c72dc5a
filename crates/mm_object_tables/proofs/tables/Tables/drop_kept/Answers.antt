use Rattle.std.proofs.Common.{sym, ◌∙◌, ap, subst}
use Rattle.mm_world.specs.{Numbered, KeptOf, numbered}
use Rattle.mm_object_tables.specs.{AreKeptTables, shown_accesses}
use Rattle.mm_object_tables.proofs.{of_others, shown_with, kept_dropped}
use Rattle.mm_object_tables.proofs.tables.Tables.drop_kept.Goals as goal

pub invariant_of-self : goal.invariant_of-self
invariant_of-self c =
    let t = shown_with c.self.inside c.self.inside.processes.items in
    subst (λ (ks : Numbered KeptOf). AreKeptTables (record t { kept = ks }) c.self.inside.directory.entries c.self.inside.commit) (sym c.drop_accesses.ensures)
    (kept_dropped t c.args.pid.0 c.self.inside.directory.entries c.self.inside.commit c.self.invariant)

pub returns-clause-nobody : goal.returns-clause-nobody
returns-clause-nobody c tid k e =
    (of_others c.args.pid.0 (shown_accesses c.self.inside.kept) tid k (ap (λ (ks : Numbered KeptOf). numbered ks tid) (sym c.drop_accesses.ensures) ∙ e)).1
