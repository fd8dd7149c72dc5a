use Rattle.std.proofs.Common.{ap, ◌∙◌}
use Rattle.mm_world.specs.{RegionOf, add_region}
use Rattle.mm_address_spaces.specs.{shown_regions, region_of, RegionsOf}
use Rattle.mm_address_spaces.proofs.{add_shown, can_add, free_among, has_flags, kept_add}
use Rattle.mm_address_spaces.proofs.spaces.AddressSpace.add.Goals as goal

pub add-requires-clause-free : goal.add-requires-clause-free
add-requires-clause-free c =
    let vs = c.self.inside.space.regions in
    let r = c.region.inside.region in
    let can = can_add vs r c.args.self.now.regions c.args.region (ap (λ (v : RegionsOf). v.regions) c.self.view_is) c.region.view_is
    (record { free = c.requires.free; granule = c.requires.granule; some = c.requires.some; fit = c.requires.rows }) in
    free_among vs r c.self.invariant.whole.whole c.region.invariant can.free

pub add-requires-clause-flags : goal.add-requires-clause-flags
add-requires-clause-flags c = has_flags c.region.inside.region c.region.invariant

pub invariant_of-self : goal.invariant_of-self
invariant_of-self c =
    let vs = c.self.inside.space.regions in
    let r = c.region.inside.region in
    let can = can_add vs r c.args.self.now.regions c.args.region (ap (λ (v : RegionsOf). v.regions) c.self.view_is) c.region.view_is
    (record { free = c.requires.free; granule = c.requires.granule; some = c.requires.some; fit = c.requires.rows }) in
    kept_add vs c.add.new.self.regions r c.self.invariant c.region.invariant can c.add.ensures.after c.add.ensures.sound

pub returns-clause-added : goal.returns-clause-added
returns-clause-added c =
    let vs = c.self.inside.space.regions in
    let r = c.region.inside.region in
    ap shown_regions c.add.ensures.after
    ∙ add_shown vs r
    ∙ ap (λ (v : RegionsOf). add_region (region_of r) v.regions) c.self.view_is
    ∙ ap (λ (g : RegionOf (Unit {0})). add_region g c.args.self.now.regions) c.region.view_is
