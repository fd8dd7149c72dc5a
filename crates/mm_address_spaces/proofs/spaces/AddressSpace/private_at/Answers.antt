use Rattle.std.proofs.Common.{Some, None, cond, option_map, sym, ap, ◌∙◌}
use Rattle.mm_world.specs.{RegionOf, pages_of, Found, is_private}
use Rattle.mm_address_spaces.specs.{RegionInfo, region_of}
use Rattle.mm_address_spaces.proofs.{private_at_told}
use Rattle.mm_address_spaces.proofs.spaces.AddressSpace.private_at.Goals as goal

pub returns-in_err-region-clause-found : goal.returns-in_err-region-clause-found
returns-in_err-region-clause-found c =
    c.from_residual.ensures
    ∙ sym (ap (option_map (λ (x : Found (RegionOf (Unit {0}))). pages_of x.thing)) (c.in_err-region.ensures.none.only (λ r. is_private r.kind)))

pub returns-then-is_private-clause-found : goal.returns-then-is_private-clause-found
returns-then-is_private-clause-found c =
    let region = c.in_ok-region.region.now in
    ap (λ (x : RegionInfo). Some x.pages) c.info_of_region.ensures
    ∙ sym (private_at_told c.args.self.now.regions c.args.addr region c.in_ok-region.ensures.some
    ∙ ap (λ b. cond b (Some (pages_of (region_of region))) None) (sym c.is_private.ensures ∙ c.if-is_private.true))

pub returns-else-is_private-clause-found : goal.returns-else-is_private-clause-found
returns-else-is_private-clause-found c =
    let region = c.in_ok-region.region.now in
    sym (private_at_told c.args.self.now.regions c.args.addr region c.in_ok-region.ensures.some
    ∙ ap (λ b. cond b (Some (pages_of (region_of region))) None) (sym c.is_private.ensures ∙ c.if-is_private.false))
