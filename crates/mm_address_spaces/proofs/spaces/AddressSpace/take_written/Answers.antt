use Rattle.std.proofs.Common.{◌≡◌, Some, map, sym, ap, ◌∙◌, slice_set}
use Rattle.mm_types.proofs.{some_found}
use Rattle.mm_types.specs.{Range, address_of}
use Rattle.mm_vad.specs.{range_at, SpaceOf}
use Rattle.mm_world.specs.{change_flags, watched_around, written_in, unwritten}
use Rattle.mm_address_spaces.specs.{shown_regions, RegionsOf}
use Rattle.mm_address_spaces.proofs.{Place, IsWatched, watched_as, told_of, told_pages, lie_with_page, unwrote, kept_unwrote}
use Rattle.mm_address_spaces.proofs.spaces.AddressSpace.take_written.Goals as goal
use Rattle.mm_address_spaces.proofs.spaces.AddressSpace.take_written.Goals.{After-range}

watched : (c : After-range) (r : Place) → watched_around c.args.self.now.regions c.args.range ≡ Some r → IsWatched (shown_regions c.self.inside.space.regions) (range_at c.range.inside.first c.range.inside.count) r
watched c r e = watched_as (record { regions = ap (λ (v : RegionsOf). v.regions) c.self.view_is; range_is = c.range.view_is }) r c.self.invariant c.range.invariant e

told : (c : After-range) (r : Place) → watched_around c.args.self.now.regions c.args.range ≡ Some r → c.in_ok-pages.pages ≡ map address_of (written_in r.thing (range_at c.range.inside.first c.range.inside.count) c.args.count)
told c r e =
    told_pages (λ (x : Place). map address_of (written_in x.thing c.args.range c.args.count)) (watched_around c.args.self.now.regions c.args.range) r c.in_ok-pages.pages c.in_ok-pages.ensures.found e
    ∙ sym (ap (λ (x : Range). map address_of (written_in r.thing x c.args.count)) c.range.view_is)

pub unwrite-requires : goal.unwrite-requires
unwrite-requires c =
    let d = (goal.at.unwrite-requires c).After-range in
    let r = some_found (watched_around c.args.self.now.regions c.args.range) (told_of _ _ c.in_ok-pages.pages c.in_ok-pages.ensures.found) in
    lie_with_page c.self.inside.space.regions (range_at c.range.inside.first c.range.inside.count) r.0 c.args.count c.in_ok-pages.pages c.self.invariant (watched d r.0 r.1) (told d r.0 r.1)

pub invariant_of-self : goal.invariant_of-self
invariant_of-self c =
    let r = some_found (watched_around c.args.self.now.regions c.args.range) (told_of _ _ c.in_ok-pages.pages c.in_ok-pages.ensures.found) in
    let d = (goal.at.invariant_of-self c).After-range in
    kept_unwrote c.self.inside.space.regions c.unwrite.new.self.regions (range_at c.range.inside.first c.range.inside.count) r.0 c.args.count c.in_ok-pages.pages c.self.invariant (watched d r.0 r.1).there (told d r.0 r.1)
    (ap (λ (s : SpaceOf). s.regions) c.unwrite.ensures.after) c.unwrite.ensures.sound

pub returns-clause-changed : goal.returns-clause-changed
returns-clause-changed c = λ r e. (
    let inner = range_at c.range.inside.first c.range.inside.count in
    let d = (goal.at.returns-clause-changed c).After-range in
    unwrote c.self.inside.space.regions c.unwrite.new.self.regions inner r c.args.count c.in_ok-pages.pages c.self.invariant (watched d r e).there (told d r e) (ap (λ (s : SpaceOf). s.regions) c.unwrite.ensures.after)
    ∙ ap (λ (v : RegionsOf). slice_set v.regions r.place (change_flags (unwritten r.thing.base (written_in r.thing inner c.args.count)) r.thing)) c.self.view_is
    ∙ ap (λ (x : Range). slice_set c.args.self.now.regions r.place (change_flags (unwritten r.thing.base (written_in r.thing x c.args.count)) r.thing)) c.range.view_is)
