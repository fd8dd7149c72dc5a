-- The free slots as a set of those that were given back, and those that were never taken.
use Rattle.std.specs.Prelude.{◌≡◌, ℕ, ◌+◌, ◌^◌, ◌<◌, ◌≤◌, Bool, true, false, List, map, nat_lt, if◌then◌else◌}
use Rattle.std.specs.List.{range_with_len}
use Rattle.mm_slots.specs.Slots.{free_count}

-- whether a slot is free: it was given back, or none from `fresh` on was ever taken
unfoldable pub is_free : (ℕ → Bool) → ℕ → ℕ → Bool
is_free back fresh i = if nat_lt i fresh then back i else true

-- for each number below n whether it is in
unfoldable pub flags : (ℕ → Bool) → ℕ → List Bool
flags has n = map has (range_with_len 0 n)

-- the free slots are counted, and there is room for those that were given back and the spare ones
pub record AreSlots (back : ℕ → Bool) (room fresh slots free spare : ℕ) : Type 0 where
  pub front : fresh ≤ slots
  pub low : (i : ℕ) → fresh ≤ i → back i ≡ false
  pub count : free ≡ free_count (flags (is_free back fresh) slots)
  pub covered : (i : ℕ) → i < slots + spare → i + 1 < 2 ^ 32 → i < room
