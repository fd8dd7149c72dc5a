use Rattle.std.proofs.Common.{◌≡◌, Some, None, sym, subst}
use Rattle.std.specs.Prelude.{IfSome, IfNone}
use Rattle.std.specs.Option.{option_copied}
use Rattle.mm_vad.specs.Regions as vad
use Rattle.mm_world.specs.{region_with}
use Rattle.mm_address_spaces.specs.{RegionsOf, IsRegionAt}
use Rattle.mm_address_spaces.proofs.{is_at, none_at}
use Rattle.mm_address_spaces.proofs.spaces.AddressSpace.region_at.Goals as goal

pub returns-clause-some : goal.returns-clause-some
returns-clause-some c =
    let vs = c.self.inside.space.regions in
    let page = c.args.page in
    elim c.find.result as (λ o. option_copied o ≡ vad.region_at vs page → IfSome o (λ r. IsRegionAt c.args.self.now.regions page r.now)) [
      | None ↦ λ e. tt
      | Some r ↦ λ e. subst (λ (v : RegionsOf). IsRegionAt v.regions page r.now) c.self.view_is (is_at vs page r.now c.self.invariant (sym e))
    ] c.find.ensures.found

pub returns-clause-none : goal.returns-clause-none
returns-clause-none c =
    let vs = c.self.inside.space.regions in
    let page = c.args.page in
    elim c.find.result as (λ o. option_copied o ≡ vad.region_at vs page → IfNone o (region_with c.args.self.now.regions page ≡ None)) [
      | None ↦ λ e. subst (λ (v : RegionsOf). region_with v.regions page ≡ None) c.self.view_is (none_at vs page c.self.invariant (sym e))
      | Some r ↦ λ e. tt
    ] c.find.ensures.found
