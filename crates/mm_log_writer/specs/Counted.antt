-- The number of a line `at`, as its room has it.
use Rattle.std.specs.Prelude.{◌≡◌, ℕ, ◌≤◌, ◌++◌, codes, length, take, drop}
use Rattle.mm_types.specs.{Text, decimal}

-- the word and the number, up to the byte 13
pub record HasNumber (room : Text) (start number : ℕ) : Type 0 where
  pub long : 13 ≤ length room
  pub early : start ≤ 10
  pub digits : drop start (take 13 room) ≡ codes "at " ++ decimal number

-- the line goes on up to `end`
pub record IsAtLine (room : Text) (start end number : ℕ) : Type 0 where
  pub numbered : HasNumber room start number
  pub order : 13 ≤ end
  pub within : end ≤ 80
