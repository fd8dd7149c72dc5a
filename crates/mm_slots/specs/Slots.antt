-- The free slots of a paging file that may grow.
use Rattle.std.specs.Prelude.{◌≡◌, ℕ, ◌<◌, Bool, true, false, List, Some, count_by, slice_get}

pub record SlotsOf : Type 0 where
  pub free : List Bool  -- for each slot whether it is free
  pub spare : ℕ  -- how many slots can be added without memory

abbrev pub free_count : List Bool → ℕ
free_count free = count_by (λ b. b) free

-- the slot is free, and none below it is
pub record IsLowest (free : List Bool) (slot : ℕ) : Type 0 where
  pub is_free : slice_get free slot ≡ Some true
  pub below : (k : ℕ) → k < slot → slice_get free k ≡ Some false
