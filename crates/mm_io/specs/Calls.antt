-- Calls that are numbered from 1, some of which are to fail.
use Rattle.std.specs.Prelude.{ℕ, ◌+◌, ◌-◌, ◌^◌, min, List, Contains}

-- the number of the next call; the count stands still at its type's end
abbrev pub next_call : ℕ → ℕ
next_call calls = min (calls + 1) (2 ^ 64 - 1)

-- the next call is one of those that are to fail
abbrev pub NextFails : List ℕ → ℕ → Type 0
NextFails fails calls = Contains fails (next_call calls)
