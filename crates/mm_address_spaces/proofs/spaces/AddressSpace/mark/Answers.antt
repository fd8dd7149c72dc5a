use Rattle.std.proofs.Common.{◌≡◌, Some, true, is_some, sym, ap, ◌∙◌, subst, slice_set}
use Rattle.mm_types.proofs.{some_found}
use Rattle.mm_vad.specs.{SpaceOf}
use Rattle.mm_world.specs.{region_with, mark_written, one_page}
use Rattle.mm_address_spaces.specs.{shown_regions, RegionsOf}
use Rattle.mm_address_spaces.proofs.{some_at, marked, kept_marks}
use Rattle.mm_address_spaces.proofs.spaces.AddressSpace.mark.Goals as goal

pub mark-requires : goal.mark-requires
mark-requires c =
    let some = subst (λ (v : RegionsOf). is_some (region_with v.regions c.args.page) ≡ true) (sym c.self.view_is) c.requires.there in
    some_at c.self.inside.space.regions c.args.page c.self.invariant some

pub invariant_of-self : goal.invariant_of-self
invariant_of-self c =
    let vs = c.self.inside.space.regions in
    let some = subst (λ (v : RegionsOf). is_some (region_with v.regions c.args.page) ≡ true) (sym c.self.view_is) c.requires.there in
    let r = some_found (region_with (shown_regions vs) c.args.page) some in
    kept_marks true vs c.mark.new.self.regions (one_page c.args.page) r.0 c.self.invariant r.1
    (ap (λ (s : SpaceOf). s.regions) c.mark.ensures.after) c.mark.ensures.sound

pub returns-clause-changed : goal.returns-clause-changed
returns-clause-changed c = λ r e. (
    let at = subst (λ (v : RegionsOf). region_with v.regions c.args.page ≡ Some r) (sym c.self.view_is) e in
    marked true c.self.inside.space.regions c.mark.new.self.regions (one_page c.args.page) r c.self.invariant at
    (ap (λ (s : SpaceOf). s.regions) c.mark.ensures.after)
    ∙ ap (λ (v : RegionsOf). slice_set v.regions r.place (mark_written true (one_page c.args.page) r.thing)) c.self.view_is)
