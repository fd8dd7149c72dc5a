use Rattle.std.proofs.Common.{◌<◌, false, ap, ◌∙◌, arith}
use Rattle.std.specs.Ordering.{nat_cmp}
use Rattle.std.specs.Prelude.{ℕ}
use Rattle.std.specs.FinMap as finite
use Rattle.std.specs.FinMap.{FinMap}
use Rattle.mm_working_sets.specs.{places_of}
use Rattle.mm_working_sets.proofs.{made, empty_keeps, no_places}
use Rattle.mm_working_sets.proofs.sets.WorkingSet.unreserved.Goals as goal

pub invariant_of-result : goal.invariant_of-result
invariant_of-result c =
    empty_keeps 0 0 0 c.new.result _ _ c.new-2.result.items c.new.ensures.empty c.unreserved.ensures (λ (some : 0 < 0). absurd (omega (arith, some)))
    (omega arith) (omega (arith, c.new.ensures.capacity)) c.new-2.ensures.items (omega (arith, c.new.ensures.capacity))

pub returns : goal.returns
returns c =
    ap (λ (m : FinMap nat_cmp ℕ). made c.args.min c.args.max false m (places_of c.new.result)) c.unreserved.ensures
    ∙ ap (made c.args.min c.args.max false finite.empty) (no_places c.new.result c.new.ensures.empty)
