use Rattle.std.proofs.Common.{◌≡◌, inl, inr, List, Some, is_some, not, sym, ap, ◌∙◌, subst}
use Rattle.std.specs.Prelude.{remove}
use Rattle.mm_types.specs.{page_of}
use Rattle.mm_world.specs.{is_private, private_at, view_at, RegionOf}
use Rattle.mm_address_spaces.specs.{shown_regions, RegionsOf}
use Rattle.mm_address_spaces.proofs.{kept_remove, removed, is_there}
use Rattle.mm_address_spaces.proofs.spaces.AddressSpace.remove.Goals as goal

pub take_out-requires : goal.take_out-requires
take_out-requires c =
    let vs = c.self.inside.space.regions in
    let view : shown_regions vs ≡ c.args.self.now.regions = ap (λ (v : RegionsOf). v.regions) c.self.view_is in
    elim c.requires.there [
      | inl e ↦ is_there (λ x. is_private x.kind) vs c.args.addr c.self.invariant (ap (λ (rs : List (RegionOf (Unit {0}))). is_some (private_at rs c.args.addr)) view ∙ e)
      | inr e ↦ is_there (λ x. not (is_private x.kind)) vs c.args.addr c.self.invariant (ap (λ (rs : List (RegionOf (Unit {0}))). is_some (view_at rs c.args.addr)) view ∙ e)
    ]

pub invariant_of-self : goal.invariant_of-self
invariant_of-self c =
    kept_remove c.self.inside.space.regions c.take_out.new.self.regions (page_of c.args.addr) c.self.invariant c.take_out.ensures.after c.take_out.ensures.sound

pub returns-clause-private : goal.returns-clause-private
returns-clause-private c = λ r e. (
    let vs = c.self.inside.space.regions in
    let there = subst (λ (v : RegionsOf). private_at v.regions c.args.addr ≡ Some r) (sym c.self.view_is) e in
    removed (λ x. is_private x.kind) vs c.take_out.new.self.regions c.args.addr r c.self.invariant c.take_out.ensures.after there
    ∙ ap (λ (v : RegionsOf). remove v.regions r.place) c.self.view_is)

pub returns-clause-view : goal.returns-clause-view
returns-clause-view c = λ r e. (
    let vs = c.self.inside.space.regions in
    let there = subst (λ (v : RegionsOf). view_at v.regions c.args.addr ≡ Some r) (sym c.self.view_is) e in
    removed (λ x. not (is_private x.kind)) vs c.take_out.new.self.regions c.args.addr r c.self.invariant c.take_out.ensures.after there
    ∙ ap (λ (v : RegionsOf). remove v.regions r.place) c.self.view_is)
