-- A working set as its places and its pages by their ages.
use Rattle.std.specs.Prelude.{◌≡◌, ℕ, ◌-◌, ◌^◌, ◌<◌, ◌≤◌, Bool, true, false, if◌then◌else◌, List, length, Option, Some, nat_lt, slice_index}
use Rattle.std.specs.Ordering.{nat_cmp}
use Rattle.std.specs.FinMap as finite
use Rattle.std.specs.FinMap.{FinMap}
use Rattle.mm_types.specs.{table}
use Rattle.slab.specs.Slab.{Slab, slab_len}
use Rattle.mm_working_sets.specs.declared.groups.AgeGroups.{AgeGroups}
use Rattle.mm_working_sets.specs.Ages.{WorkingSetOf, EachAtOnePlace}
use Rattle.mm_working_sets.specs.AgeGroups.{age_in, ages_by_group}

-- from each page its age
abbrev pub ages_of : AgeGroups → FinMap nat_cmp ℕ
ages_of g = ages_by_group g.newest g.sets.items

-- the same of one page
abbrev pub age_of : AgeGroups → ℕ → Option ℕ
age_of g = age_in g.newest g.sets.items

-- whether pages may come
abbrev pub has_age_room : AgeGroups → Bool
has_age_room g = nat_lt 0 (length g.sets.items)

-- from each place in use its page
abbrev pub places_of : Slab ℕ → FinMap nat_cmp ℕ
places_of places = table (λ page. page) places.slots

-- for how many pages a set has room
abbrev pub room_of : Bool → ℕ → ℕ
room_of reserved max = if reserved then max else 0

-- only the two maps, for what speaks of them alone
abbrev pub maps : FinMap nat_cmp ℕ → FinMap nat_cmp ℕ → WorkingSetOf
maps ages places = record { min = 0; max = 0; reserved = false; ages = ages; places = places }

-- a round after which no other is told apart from it: no page is known to be used in it
abbrev pub last_round : ℕ
last_round = 2 ^ 64 - 1

-- a page whose place was used in this round has age 0
pub record KnowsUses (ages places : FinMap nat_cmp ℕ) (rounds : ℕ) (used_in : List ℕ) : Type 0 where
  pub early : (p : ℕ) → slice_index used_in p ≤ rounds
  pub never_last : (p : ℕ) → slice_index used_in p < last_round
  pub fresh : (p v : ℕ) → finite.get places p ≡ Some v → slice_index used_in p ≡ rounds →
      finite.get ages v ≡ Some 0

-- no more places are in use than there is room for, and where there is room pages may come
pub record IsWorkingSet (most : ℕ) (places : Slab ℕ) (ages : FinMap nat_cmp ℕ) (has_sets : Bool)
    (rounds : ℕ) (used_in : List ℕ) : Type 0 where
  pub counted : finite.len (places_of places) ≡ slab_len places
  pub few : slab_len places ≤ most
  pub room : most ≤ places.capacity
  pub fits : places.capacity < 2 ^ 32
  pub enough : places.capacity ≤ length used_in
  pub in_range : (p v : ℕ) → finite.get (places_of places) p ≡ Some v → p < places.capacity
  pub roomy : 0 < most → has_sets ≡ true
  pub each : EachAtOnePlace (maps ages (places_of places))
  pub uses : KnowsUses ages (places_of places) rounds used_in
