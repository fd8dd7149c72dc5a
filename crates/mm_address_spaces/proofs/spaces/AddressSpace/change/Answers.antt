use Rattle.std.proofs.Common.{ap, subst}
use Rattle.mm_types.specs.{Range}
use Rattle.mm_vad.specs.{range_at}
use Rattle.mm_address_spaces.specs.{RowsChanged, shown_regions, RegionsOf}
use Rattle.mm_address_spaces.proofs.{Regions, Same, inside, can_inside, kept_rows}
use Rattle.mm_address_spaces.proofs.spaces.AddressSpace.change.Goals as goal
use Rattle.mm_address_spaces.proofs.spaces.AddressSpace.change.Goals.{After-range}

same : (c : After-range) → Same c.self.inside.space.regions (range_at c.range.inside.first c.range.inside.count) c.args.self.now.regions c.args.range
same c = record { regions = ap (λ (v : RegionsOf). v.regions) c.self.view_is; range_is = c.range.view_is }

pub change_rows-requires-clause-inside : goal.change_rows-requires-clause-inside
change_rows-requires-clause-inside c = inside _ _ _ _ (same (goal.at.change_rows-requires-clause-inside c).After-range) c.requires.inside

pub invariant_of-self : goal.invariant_of-self
invariant_of-self c =
    let s = same (goal.at.invariant_of-self c).After-range in
    kept_rows c.self.inside.space.regions c.change_rows.new.space.regions c.args.change (range_at c.range.inside.first c.range.inside.count) c.self.invariant (inside _ _ _ _ s c.requires.inside)
    (can_inside _ _ _ _ s c.args.change c.requires.can) c.change_rows.ensures.after c.change_rows.ensures.kept

pub returns-clause-changed : goal.returns-clause-changed
returns-clause-changed c =
    let s = same (goal.at.returns-clause-changed c).After-range in
    subst (λ (rs : Regions). RowsChanged c.args.change c.args.range rs (shown_regions c.change_rows.new.space.regions)) s.regions
    (subst (λ (range : Range). RowsChanged c.args.change range (shown_regions c.self.inside.space.regions) (shown_regions c.change_rows.new.space.regions)) s.range_is c.change_rows.ensures.after)
