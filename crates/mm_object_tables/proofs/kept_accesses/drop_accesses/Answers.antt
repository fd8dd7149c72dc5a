use Rattle.std.proofs.Common.{◌≤◌, sym, ◌∙◌, ap, arith, Option, length, set}
use Rattle.std.proofs.lemmas.List.Edits.{map_over_more}
use Rattle.mm_object_tables.specs.{Kept, shown_accesses, unless_of}
use Rattle.mm_object_tables.proofs.{shown_unless, all_changed}
use Rattle.mm_object_tables.proofs.kept_accesses.drop_accesses.Goals as goal

pub loop-tid-preserved : goal.loop-tid-preserved
loop-tid-preserved c =
    let pid = c.args.pid.0 in
    ap (λ (o : Option Kept). set c.loop-tid.kept c.loop-tid.tid o) (c.drop_access.ensures ∙ ap (unless_of pid) (sym c.index-kept-tid.is))
    ∙ map_over_more (unless_of pid) c.args.kept.now c.loop-tid.kept c.loop-tid.tid c.index-kept-tid.result (omega (arith, c.told-kept)) c.loop-tid.invariant c.index-kept-tid.is

pub returns : goal.returns
returns c =
    let pid = c.args.pid.0 in
    let few : length c.args.kept.now ≤ c.loop-tid.tid = omega (arith, c.told-kept) in
    ap shown_accesses (c.loop-tid.invariant ∙ all_changed (unless_of pid) c.args.kept.now c.loop-tid.tid few) ∙ shown_unless pid c.args.kept.now
