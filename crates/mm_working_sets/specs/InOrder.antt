-- The lowest page at a number or above, of those that a process has.
-- Profile, "Calls".
use Rattle.std.specs.Prelude.{◌≡◌, ℕ, ◌≤◌, Bool, true, Option, Some, None}
use Rattle.mm_types.specs.{Vpn}
use Rattle.mm_bits.specs.{IsLowestFrom}

-- what is answered: the lowest of the pages at `from` or above, or none where there is none
abbrev pub IsNextFrom : (ℕ → Bool) → ℕ → Option Vpn → Type 0
IsNextFrom has from None = (w : ℕ) → has w ≡ true → from ≤ w → ⊥
IsNextFrom has from (Some v) = IsLowestFrom has from v.0
