-- What a table in leaves has: values by a number, those of 256 numbers in a leaf.
use Rattle.std.specs.Prelude.{◌≡◌, ℕ, ◌<◌, ◌/◌, ◌%◌, ◌==◌, if◌then◌else◌, List, length, Option, Some, None, slice_get, slice_index_or}
use Rattle.std.specs.declared.vec.Vec.{Vec}

-- what a leaf has at an index
abbrev pub in_leaf : {X Z : Type 0} → Option (Vec (Option X) Z) → ℕ → Option X
in_leaf None i = None
in_leaf (Some leaf) i = slice_index_or leaf.items i None

-- for how many numbers a leaf has places
abbrev pub leaf_len : {X Z : Type 0} → Option (Vec X Z) → ℕ
leaf_len None = 0
leaf_len (Some leaf) = length leaf.items

-- what the leaves have for a number
unfoldable pub in_leaves : {X Z : Type 0} → List (Vec (Option X) Z) → ℕ → Option X
in_leaves leaves n = in_leaf (slice_get leaves (n / 256)) (n % 256)

abbrev pub HasPlace : {X Z : Type 0} → List (Vec X Z) → ℕ → Type 0
HasPlace leaves n = n % 256 < leaf_len (slice_get leaves (n / 256))

-- for n it is x from now on, for all other numbers it stays
abbrev pub Sets : {X : Type 0} → (ℕ → X) → (ℕ → X) → ℕ → X → Type 0
Sets old new n x = (q : ℕ) → new q ≡ (if q == n then x else old q)

abbrev pub Same : {X : Type 0} → (ℕ → X) → (ℕ → X) → Type 0
Same old new = (q : ℕ) → new q ≡ old q
