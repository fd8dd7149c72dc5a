-- Calls that are numbered from 1, some of which are to fail, and a log with room for so many of
-- them.
use Rattle.std.specs.Prelude.{ℕ, ◌+◌, ◌-◌, ◌^◌, min, if◌then◌else◌, nat_le, List, Contains, Option, Some, None}

-- the count after one more call; it stands still at its type's end
abbrev pub next_call : ℕ → ℕ
next_call calls = min (calls + 1) (2 ^ 64 - 1)

-- the next call is one of those that are to fail
abbrev pub NextFails : List ℕ → ℕ → Type 0
NextFails fails calls = Contains fails (next_call calls)

-- what a log with room for so many calls tells after so many
abbrev pub calls_told : {X : Type 0} → ℕ → ℕ → List X → Option (List X)
calls_told room made calls = if nat_le made room then Some calls else None
