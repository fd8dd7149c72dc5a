-- How much room there is between ranges in a row.
use Rattle.std.specs.Prelude.{ℕ, ◌+◌, ◌-◌, ◌*◌, ◌/◌, max, nat_le, if◌then◌else◌, List, [], ◌∷◌, Option, Some, None}
use Rattle.mm_types.specs.{Range, end_of, granule_pages}

-- the first page of the lowest granule that begins at the page or above it
abbrev pub aligned : ℕ → ℕ
aligned page = (page + 15) / granule_pages * granule_pages

-- the most pages from the beginning of a granule on, between two pages
abbrev pub room : ℕ → ℕ → ℕ
room low high = high - aligned low

-- the first page of the first range
abbrev pub lowest : List Range → ℕ
lowest [] = 0
lowest (r ∷ rs) = r.first

-- the end of the last range, or `low` where there is none
abbrev pub end_after : ℕ → List Range → ℕ
end_after low [] = low
end_after low (r ∷ rs) = end_after (end_of r) rs

-- the most room before one of the ranges: before the first from `low` on
abbrev pub widest : ℕ → List Range → ℕ
widest low [] = 0
widest low (r ∷ rs) = max (room low r.first) (widest (end_of r) rs)

-- the first place with room for n pages, from `low` on, before one of the ranges or below `high`
abbrev pub first_fit : ℕ → List Range → ℕ → ℕ → Option ℕ
first_fit low [] high n = if nat_le n (room low high) then Some (aligned low) else None
first_fit low (r ∷ rs) high n = let later = first_fit (end_of r) rs high n in
    if nat_le n (room low r.first) then Some (aligned low) else later
