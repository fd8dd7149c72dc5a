-- Ranges of user pages that lie apart, in rising order.
-- Profile, "Machine, addresses, limits".
use Rattle.std.specs.Prelude.{ℕ, ◌≤◌, ◌<◌, Bool, nat_lt, ◌==◌, if◌then◌else◌, List, [], ◌∷◌}
use Rattle.std.specs.List.{list_any}
use Rattle.mm_types.specs.{Range, end_of, end_of_user_pages, Vpn}

-- what a `Gaps` is seen as: the ranges that are taken, and how many more can be inserted without
-- memory
pub record GapsOf : Type 0 where
  pub ranges : List Range
  pub spare : ℕ

abbrev pub range_at : ℕ → ℕ → Range
range_at first count = record { first = first; count = count }

-- a range has a page, does not begin below `low`, and does not pass the user pages
pub record FollowsFrom (low : ℕ) (r : Range) : Type 0 where
  pub from : low ≤ r.first
  pub some : 0 < r.count
  pub within : end_of r ≤ end_of_user_pages

-- each range follows from the end of the one before, the first from `low`
abbrev pub LieApart : ℕ → List Range → Type 0
LieApart low [] = Unit {0}
LieApart low (r ∷ rs) = FollowsFrom low r × LieApart (end_of r) rs

-- the ranges with one more, in order of their first pages
abbrev pub add_range : Range → List Range → List Range
add_range r [] = r ∷ []
add_range r (x ∷ xs) = let later = add_range r xs in if nat_lt r.first x.first then r ∷ x ∷ xs else
    x ∷ later

-- whether a range begins at the page
abbrev pub is_begun_at : ℕ → List Range → Bool
is_begun_at first ranges = list_any (λ r. r.first == first) ranges

-- the ranges without the one that begins at the page
abbrev pub remove_range : ℕ → List Range → List Range
remove_range first [] = []
remove_range first (x ∷ xs) = let later = remove_range first xs in if x.first == first then xs else
    x ∷ later

abbrev pub page_number : ℕ → Vpn
page_number page = record { 0 = page }

-- a range as the code gives it: its first page, and how many there are
abbrev pub first_and_count : Range → Vpn × ℕ
first_and_count r = (page_number r.first, r.count)
