-- Blocks of whole pages.
use Rattle.std.specs.Prelude.{◌≡◌, ℕ, List, length, Some, slice_get}

-- each block of a device has 4,096 bytes
abbrev pub AreWhole : List (List ℕ) → Type 0
AreWhole blocks = (i : ℕ) (page : List ℕ) → slice_get blocks i ≡ Some page → length page ≡ 4096
