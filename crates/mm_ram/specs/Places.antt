-- A row of places, each empty or holding a value.
use Rattle.std.specs.Prelude.{◌≡◌, ℕ, get_or, List, Option, Some, None}

-- the place at the index holds a value
abbrev pub IsFilled : {X : Type 0} → List (Option X) → ℕ → Type 0
IsFilled {X} cs i = (x : X) × (get_or cs i None ≡ Some x)
