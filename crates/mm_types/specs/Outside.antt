-- Words for sources, sinks and devices.
-- Profile, "A run".
use Rattle.std.specs.Borrow.{GName}
use Rattle.std.specs.Prelude.{◌≡◌, ℕ, ◌+◌, ◌-◌, ◌^◌, ◌≤◌, min, List, [], ◌++◌, Option, Some, None, Result, OnErr}

-- The references that a value holds, by their names.
pub data Loans : Type 0 where
  NoLoan : Loans
  Loan : (name : GName) → Loans
  Both : (first second : Loans) → Loans

-- A count of faults rose: it is greater now, or stands at its type's end.
abbrev pub Rose : ℕ → ℕ → Type 0
Rose before now = min (before + 1) (2 ^ 64 - 1) ≤ now

-- A count of faults never falls, and an error comes only where it rose.
pub record HasCause {T E : Type 0} (before now : ℕ) (result : Result T E) : Type 0 where
  pub later : before ≤ now
  pub failed : OnErr result (Rose before now)

-- These bytes were taken from the front of what was left, where that is told.
abbrev pub Took : Option (List ℕ) → Option (List ℕ) → List ℕ → Type 0
Took None None bytes = Unit {0}
Took None (Some b) bytes = ⊥
Took (Some a) None bytes = ⊥
Took (Some a) (Some b) bytes = a ≡ bytes ++ b

-- None is left, where that is told.
abbrev pub IsEnd : Option (List ℕ) → Type 0
IsEnd None = Unit {0}
IsEnd (Some bytes) = bytes ≡ []

-- These bytes came after those taken before, where that is told.
abbrev pub Appended : Option (List ℕ) → Option (List ℕ) → List ℕ → Type 0
Appended None None bytes = Unit {0}
Appended None (Some b) bytes = ⊥
Appended (Some a) None bytes = ⊥
Appended (Some a) (Some b) bytes = b ≡ a ++ bytes
