use Rattle.std.proofs.Common.{sym, ap, ◌∙◌, option_map, slice_get, None}
use Rattle.mm_address_spaces.specs.{RegionsOf, info_of}
use Rattle.mm_address_spaces.proofs.{lowest_shown}
use Rattle.mm_address_spaces.proofs.spaces.AddressSpace.lowest.Goals as goal

pub returns-in_err-region-clause-found : goal.returns-in_err-region-clause-found
returns-in_err-region-clause-found c =
    c.from_residual.ensures
    ∙ sym (ap (λ (v : RegionsOf). option_map info_of (slice_get v.regions 0)) (sym c.self.view_is)
    ∙ ap (option_map info_of) (lowest_shown c.self.inside.space.regions None c.in_err-region.ensures.found))
