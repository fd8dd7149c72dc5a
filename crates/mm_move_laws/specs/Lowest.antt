-- The lowest free slot, by the slots below it.
use Rattle.std.specs.Prelude.{◌≡◌, ℕ, ◌<◌, Bool, true, false, List, Some, slice_get}

-- the slot is free, and none below it is
pub record IsLowest (free : List Bool) (slot : ℕ) : Type 0 where
  pub is_free : slice_get free slot ≡ Some true
  pub below : (k : ℕ) → k < slot → slice_get free k ≡ Some false
