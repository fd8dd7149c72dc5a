-- The pages of a working set in eight groups, each with a set of its own; a ninth has them all.
use Rattle.std.specs.Prelude.{◌≡◌, ◌≢◌, ◌⊎◌, ℕ, zero, suc, ◌^◌, ◌<◌, ◌≤◌, Bool, false, ◌||◌, ◌==◌, if◌then◌else◌, List, [], length, Option, Some, None, is_some, option_map, slice_index_or}
use Rattle.std.specs.List.{range_with_len}
use Rattle.std.specs.Ordering.{nat_cmp}
use Rattle.std.specs.FinMap as finite
use Rattle.std.specs.FinMap.{FinMap}
use Rattle.mm_types.specs.{table, Vpn}
use Rattle.mm_bits.specs.{have_bit}
use Rattle.mm_working_sets.specs.Ages.{GoesBefore}
use Rattle.mm_working_sets.specs.Ring.{turned}

-- whether the page is in a set
unfoldable pub is_in : List (List ℕ) → ℕ → ℕ → Bool
is_in sets set v = have_bit (slice_index_or sets set []) v

-- the group of a page, if it has one below n
unfoldable pub group_below : List (List ℕ) → ℕ → ℕ → Option ℕ
group_below sets v zero = None
group_below sets v (suc g) = let rest = group_below sets v g in if is_in sets g v then Some g else
    rest

unfoldable pub group_in : List (List ℕ) → ℕ → Option ℕ
group_in sets v = group_below sets v 8

-- its age, if it has a group
abbrev pub age_in : ℕ → List (List ℕ) → ℕ → Option ℕ
age_in newest sets v = option_map (turned newest) (group_in sets v)

-- the numbers below n
unfoldable pub numbers_below : ℕ → List ℕ
numbers_below n = range_with_len 0 n

-- from each page its age, which its group has
unfoldable pub ages_by_group : ℕ → List (List ℕ) → FinMap nat_cmp ℕ
ages_by_group newest sets = table (age_in newest sets) (numbers_below 524288)

abbrev pub is_group : Option ℕ → ℕ → Bool
is_group None g = false
is_group (Some h) g = h == g

-- each page below 2 GiB is in the set of its group, in none of another, and in that of all
pub record AreGrouped (sets : List (List ℕ)) (group : ℕ → Option ℕ) : Type 0 where
  pub each : (g v : ℕ) → g ≤ 7 → is_in sets g v ≡ is_group (group v) g
  pub all : (v : ℕ) → is_in sets 8 v ≡ is_some (group v)
  pub known : (v g : ℕ) → group v ≡ Some g → g ≤ 7
  pub low : (v g : ℕ) → group v ≡ Some g → v < 2 ^ 19

-- there are nine sets, or none
pub record IsGrouped (newest : ℕ) (sets : List (List ℕ)) : Type 0 where
  pub turning : newest < 7
  pub whole : 0 < length sets → length sets ≡ 9
  pub grouped : AreGrouped sets (group_in sets)

-- no page is older than this
pub record NoneOlder (most : ℕ) (ages : FinMap nat_cmp ℕ) : Type 0 where
  pub known : most ≤ 7
  pub young : (v age : ℕ) → finite.get ages v ≡ Some age → age ≤ most

-- one page is in a set or not from now on, all else is as before
pub record PutsPage (b : Bool) (old new : List (List ℕ)) (set page : ℕ) : Type 0 where
  pub here : is_in new set page ≡ b
  pub other_sets : (g v : ℕ) → g ≢ set → is_in new g v ≡ is_in old g v
  pub other_pages : (g v : ℕ) → v ≢ page → is_in new g v ≡ is_in old g v
  pub count : length new ≡ length old

-- the pages of a group below a number went to group 7
pub record Joins (old new : List (List ℕ)) (group below : ℕ) : Type 0 where
  pub gone : (v : ℕ) → v < below → is_in new group v ≡ false
  pub both : (v : ℕ) → (is_in new 7 v || is_in new group v) ≡ (is_in old 7 v || is_in old group v)
  pub others : (g v : ℕ) → g ≢ 7 → g ≢ group → is_in new g v ≡ is_in old g v
  pub count : length new ≡ length old

-- where a page goes whose group joins group 7
abbrev pub retired_to : ℕ → ℕ → ℕ
retired_to group g = if g == group then 7 else g

-- page v goes first of those pages and ages that are in question
pub record IsFirstOf (ages : ℕ → Option ℕ) (asked : ℕ → ℕ → Type 0) (v : ℕ) : Type 0 where
  pub age : ℕ
  pub held : ages v ≡ Some age
  pub one : asked v age
  pub first : (w b : ℕ) → ages w ≡ Some b → asked w b → (w ≡ v) ⊎ GoesBefore v age w b

abbrev pub NoneOf : (ℕ → Option ℕ) → (ℕ → ℕ → Type 0) → Type 0
NoneOf ages asked = (w b : ℕ) → ages w ≡ Some b → asked w b → ⊥

-- that page, or none where there is none
abbrev pub GoesFirst : (ℕ → Option ℕ) → (ℕ → ℕ → Type 0) → Option Vpn → Type 0
GoesFirst ages asked None = NoneOf ages asked
GoesFirst ages asked (Some v) = IsFirstOf ages asked v.0

abbrev pub IsBelow : ℕ → ℕ → ℕ → Type 0
IsBelow limit w b = b < limit

-- no page has an age from one on and below another
abbrev pub NoAgeWithin : (ℕ → Option ℕ) → ℕ → ℕ → Type 0
NoAgeWithin ages age limit = (w b : ℕ) → ages w ≡ Some b → b < limit → b < age
