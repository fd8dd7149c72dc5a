-- The free slots of a running check: the lowest is kept apart from the others.
use Rattle.std.specs.Prelude.{◌≡◌, ℕ, Bool, false, List, [], Option, Some, None, slice_set}
use Rattle.mm_slots.specs.{SlotsOf, free_count, IsLowest}

abbrev pub no_slots : SlotsOf
no_slots = record { free = []; spare = 0 }

abbrev pub slots_of : Option SlotsOf → SlotsOf
slots_of None = no_slots
slots_of (Some v) = v

-- the lowest free slot, if any is free
abbrev pub IsLowestIn : List Bool → Option ℕ → Type 0
IsLowestIn free None = free_count free ≡ 0
IsLowestIn free (Some s) = IsLowest free s

-- the slots without the one that is kept apart
abbrev pub without_kept_slot : List Bool → Option ℕ → List Bool
without_kept_slot free None = free
without_kept_slot free (Some s) = slice_set free s false

pub record AreApartFrom (free : List Bool) (lowest : Option ℕ) (others : List Bool) : Type 0 where
  pub is_lowest : IsLowestIn free lowest
  pub others_are : others ≡ without_kept_slot free lowest
