-- How a `Space` holds its regions: by their bases, in the order of the ranges that they take.
use Rattle.std.specs.Prelude.{◌≡◌, ℕ, min, List, [], ◌∷◌, length, Option, IsSome, IsSomeAnd, IsTrue}
use Rattle.std.specs.List.{cons_option}
use Rattle.mm_types.specs.{Range, first_user_page}
use Rattle.mm_vad.specs.Ranges.{GapsOf, LieApart, is_begun_at}
use Rattle.mm_vad.specs.declared.regions.Region.{Region}
use Rattle.mm_vad.specs.Regions.{SpaceOf, region_range, HasFlags}

-- the regions that are found at the first pages of the ranges
abbrev pub regions_of : (ℕ → Option Region) → List Range → List Region
regions_of found [] = []
regions_of found (r ∷ rs) = cons_option (found r.first) (regions_of found rs)

-- what is seen of a space: its regions, and how many more there is room for
abbrev pub space_of : (ℕ → Option Region) → GapsOf → ℕ → SpaceOf
space_of found taken more = record {
  regions = regions_of found taken.ranges;
  spare = min taken.spare more;
}

-- a region of just these pages is found at the first of them, with a row for each and, where it is
-- watched, a flag
abbrev pub IsHeld : (ℕ → Option Region) → Range → Type 0
IsHeld found r =
    IsSomeAnd (found r.first) (λ region. (region_range region ≡ r)
    × (length region.rows ≡ r.count) × HasFlags r.count region)

abbrev pub AllHeld : (ℕ → Option Region) → List Range → Type 0
AllHeld found [] = Unit {0}
AllHeld found (r ∷ rs) = IsHeld found r × AllHeld found rs

-- each range has its region, and no other region is found
pub record IsIndex (found : ℕ → Option Region) (ranges : List Range) : Type 0 where
  pub apart : LieApart first_user_page ranges
  pub held : AllHeld found ranges
  pub only : (base : ℕ) → IsSome (found base) → IsTrue (is_begun_at base ranges)
