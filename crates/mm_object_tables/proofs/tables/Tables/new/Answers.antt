use Rattle.std.proofs.Common.{◌≡◌, ◌≤◌, [], sym, ◌∙◌, ap, subst, arith}
use Rattle.mm_world.specs.{Tables, first_world, Numbered}
use Rattle.mm_commit_charge.specs.{CommitOf}
use Rattle.mm_sections.specs.{CountedSection, DirectoryOf}
use Rattle.mm_object_tables.specs.{AreKeptTables, shown_processes, shown_accesses, tables_with}
use Rattle.mm_object_tables.proofs.{first_kept}
use Rattle.mm_object_tables.proofs.tables.Tables.new.Goals as goal

pub invariant_of-result : goal.invariant_of-result
invariant_of-result c =
    let few : c.args.machine.slots ≤ 262144 = omega arith in
    let first = first_kept c.args.machine c.new-4.result few (ap (λ (k : CommitOf). k.charge) c.new-4.ensures) (ap (λ (k : CommitOf). k.limit) c.new-4.ensures ∙ c.limit.ensures) in
    let entries : c.new-2.result.entries ≡ [] = ap (λ (d : DirectoryOf). d.entries) c.new-2.ensures in
    let files : c.new-2.result.files ≡ [] = ap (λ (d : DirectoryOf). d.files) c.new-2.ensures in
    let same : tables_with c.args.machine (shown_processes c.new.result.items) c.new-2.result.entries c.new-3.result.items c.new-2.result.files 0 0 (shown_accesses c.no_accesses.result) c.new-5.result ≡ first_world c.args.machine =
    λ i. tables_with c.args.machine (shown_processes (c.new.ensures.items i)) (entries i) (c.new-3.ensures.items i) (files i) 0 0 (c.no_accesses.ensures i) (c.new-5.ensures i) in
    subst (λ (t : Tables). AreKeptTables t c.new-2.result.entries c.new-4.result) (sym same) (subst (λ (es : Numbered CountedSection). AreKeptTables (first_world c.args.machine) es c.new-4.result) (sym entries) first)

pub returns : goal.returns
returns c =
    let entries : c.new-2.result.entries ≡ [] = ap (λ (d : DirectoryOf). d.entries) c.new-2.ensures in
    let files : c.new-2.result.files ≡ [] = ap (λ (d : DirectoryOf). d.files) c.new-2.ensures in
    λ i. tables_with c.args.machine (shown_processes (c.new.ensures.items i)) (entries i) (c.new-3.ensures.items i) (files i) 0 0 (c.no_accesses.ensures i) (c.new-5.ensures i)
