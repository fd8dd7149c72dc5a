use Rattle.std.proofs.Common.{◌≡◌, ◌+◌, ◌≤◌, arith, None, sym, subst}
use Rattle.std.specs.Prelude.{IfNone}
use Rattle.mm_types.specs.{Range, end_of}
use Rattle.mm_world.specs.{region_with}
use Rattle.mm_address_spaces.specs.{IsRegionAt, NoneAround}
use Rattle.mm_address_spaces.proofs.{around_some, around_short, around_none, long}
use Rattle.mm_address_spaces.proofs.spaces.AddressSpace.around.Goals as goal
use Rattle.mm_address_spaces.proofs.spaces.AddressSpace.around.Goals.{After-range, After-end_of_region}

some : (c : After-range) → 1 ≤ c.args.range.count
some c = subst (λ (v : Range). 1 ≤ v.count) c.range.view_is c.range.invariant

at : (c : After-end_of_region) → IsRegionAt c.args.self.now.regions c.args.range.first c.in_ok-region.region.now
at c = subst (λ (v : Range). IsRegionAt c.args.self.now.regions v.first c.in_ok-region.region.now) c.range.view_is c.in_ok-region.ensures.some

pub returns-in_err-region-clause-none : goal.returns-in_err-region-clause-none
returns-in_err-region-clause-none c =
    let rs = c.args.self.now.regions in
    subst (λ o. IfNone o (NoneAround rs c.args.range)) (sym c.from_residual.ensures)
    (around_none rs c.region_at.ensures.sound c.args.range (some (goal.at.returns-in_err-region-clause-none c).After-range) (subst (λ (v : Range). region_with rs v.first ≡ None) c.range.view_is c.in_err-region.ensures.none))

pub returns-then-end-end_of_region-clause-some : goal.returns-then-end-end_of_region-clause-some
returns-then-end-end_of_region-clause-some c =
    let d = goal.at.returns-then-end-end_of_region-clause-some c in
    around_some c.args.self.now.regions c.region_at.ensures.sound c.args.range (some d.After-range) c.in_ok-region.region.now (at d.After-end_of_region)
    (omega (arith, c.end.ensures.end, c.end_of_region.ensures, c.if-end-end_of_region.true))

pub returns-else-end-end_of_region-clause-none : goal.returns-else-end-end_of_region-clause-none
returns-else-end-end_of_region-clause-none c =
    let d = goal.at.returns-else-end-end_of_region-clause-none c in
    let region = c.in_ok-region.region.now in
    around_short c.args.self.now.regions c.region_at.ensures.sound c.args.range (some d.After-range) region (at d.After-end_of_region)
    (long (end_of c.args.range) (region.base.0 + region.pages) (omega (arith, c.end.ensures.end, c.end_of_region.ensures, c.if-end-end_of_region.false)))
