use Rattle.std.proofs.Common.{◌≡◌, ap, ◌∙◌, arith, length, map, take, drop, ◌++◌}
use Rattle.std.specs.Prelude.{slice_set}
use Rattle.std.proofs.lemmas.List.{get_or_default}
use Rattle.std.proofs.lemmas.List.Edits.{map_over_more}
use Rattle.mm_devices.specs.{one_further}
use Rattle.mm_devices.proofs.{front_length, front_changed}
use Rattle.mm_devices.proofs.plans.move_on.Goals as goal

pub loop-i-preserved : goal.loop-i-preserved
loop-i-preserved c =
    let long : length c.loop-i.entries ≡ length c.args.entries.now = ap length c.loop-i.invariant ∙ front_length (one_further c.args.direction) c.loop-i.i c.args.entries.now in
    ap (λ w. slice_set c.loop-i.entries c.loop-i.i w) c.go_on.ensures
    ∙ map_over_more (one_further c.args.direction) c.args.entries.now c.loop-i.entries c.loop-i.i _ (omega (arith, c.told-entries, c.requires)) c.loop-i.invariant (get_or_default c.loop-i.entries c.loop-i.i _ _ (omega (arith, c.told-entries, c.requires, long)))

pub returns : goal.returns
returns c =
    let e : c.loop-i.i ≡ c.args.count = omega arith in
    ap (take c.args.count) (c.loop-i.invariant ∙ ap (λ k. map (one_further c.args.direction) (take k c.args.entries.now) ++ drop k c.args.entries.now) e)
    ∙ front_changed (one_further c.args.direction) c.args.count c.args.entries.now
