-- What is known of pages before each is looked up: whether it has bytes of its own.
use Rattle.std.specs.Prelude.{◌≡◌, ◌<◌, ◌+◌, ℕ, Bool, List, Option, IfSome, is_some}
use Rattle.mm_types.specs.{Range}
use Rattle.mm_world.specs.{RegionOf, own_page}

-- of one page
abbrev pub KnownAt : Option Bool → List (RegionOf (Unit {0})) → ℕ → Type 0
KnownAt known regions page = IfSome known (λ owned. is_some (own_page regions page) ≡ owned)

-- of each page of a range
abbrev pub KnownIn : Option Bool → List (RegionOf (Unit {0})) → Range → Type 0
KnownIn known regions range =
    IfSome known (λ owned. (i : ℕ) → i < range.count →
    is_some (own_page regions (range.first + i)) ≡ owned)
