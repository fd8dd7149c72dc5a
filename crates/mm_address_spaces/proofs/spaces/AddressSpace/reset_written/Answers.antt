use Rattle.std.proofs.Common.{◌≡◌, Some, false, sym, ap, ◌∙◌, slice_set}
use Rattle.mm_types.proofs.{some_found}
use Rattle.mm_types.specs.{Range}
use Rattle.mm_vad.specs.{range_at, SpaceOf}
use Rattle.mm_world.specs.{mark_written, watched_around}
use Rattle.mm_address_spaces.specs.{shown_regions, RegionsOf}
use Rattle.mm_address_spaces.proofs.{Place, IsWatched, watched_as, lie_in_region, marked, kept_marks}
use Rattle.mm_address_spaces.proofs.spaces.AddressSpace.reset_written.Goals as goal
use Rattle.mm_address_spaces.proofs.spaces.AddressSpace.reset_written.Goals.{After-range}

watched : (c : After-range) (r : Place) → watched_around c.args.self.now.regions c.args.range ≡ Some r → IsWatched (shown_regions c.self.inside.space.regions) (range_at c.range.inside.first c.range.inside.count) r
watched c r e = watched_as (record { regions = ap (λ (v : RegionsOf). v.regions) c.self.view_is; range_is = c.range.view_is }) r c.self.invariant c.range.invariant e

pub clear_marks-requires : goal.clear_marks-requires
clear_marks-requires c =
    let r = some_found (watched_around c.args.self.now.regions c.args.range) (sym c.is_watched.ensures ∙ c.if-not-is_watched.false) in
    lie_in_region c.self.inside.space.regions (range_at c.range.inside.first c.range.inside.count) r.0 c.self.invariant (watched c r.0 r.1)

pub invariant_of-self : goal.invariant_of-self
invariant_of-self c =
    let r = some_found (watched_around c.args.self.now.regions c.args.range) (sym c.is_watched.ensures ∙ c.if-not-is_watched.false) in
    kept_marks false c.self.inside.space.regions c.clear_marks.new.self.regions (range_at c.range.inside.first c.range.inside.count) r.0 c.self.invariant (watched (goal.at.invariant_of-self c).After-range r.0 r.1).there
    (ap (λ (s : SpaceOf). s.regions) c.clear_marks.ensures.after) c.clear_marks.ensures.sound

pub returns-clause-changed : goal.returns-clause-changed
returns-clause-changed c = λ r e. (
    let inner = range_at c.range.inside.first c.range.inside.count in
    marked false c.self.inside.space.regions c.clear_marks.new.self.regions inner r c.self.invariant (watched (goal.at.returns-clause-changed c).After-range r e).there (ap (λ (s : SpaceOf). s.regions) c.clear_marks.ensures.after)
    ∙ ap (λ (v : RegionsOf). slice_set v.regions r.place (mark_written false inner r.thing)) c.self.view_is
    ∙ ap (λ (x : Range). slice_set c.args.self.now.regions r.place (mark_written false x r.thing)) c.range.view_is)
