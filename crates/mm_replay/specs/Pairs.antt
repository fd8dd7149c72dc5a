-- What a table by two numbers has: in leaves where both numbers are small and a leaf is there, in
-- an ordered map otherwise.
use Rattle.std.specs.Prelude.{◌≡◌, ℕ, ◌+◌, ◌*◌, ◌==◌, ◌&&◌, nat_lt, if◌then◌else◌, Option, Some, None}
use Rattle.std.specs.Ordering.{nat_cmp}
use Rattle.std.specs.BTreeMap.{BTreeMap, get}
use Rattle.mm_replay.specs.declared.pairs.Pairs.{Pairs}
use Rattle.mm_replay.specs.Grids.{in_leaves}

-- for a and b it is x from now on, for all others it stays
abbrev pub Writes : {X : Type 0} → (ℕ → ℕ → X) → (ℕ → ℕ → X) → ℕ → ℕ → X → Type 0
Writes old new a b x = (c d : ℕ) → new c d ≡ (if (c == a) && (d == b) then x else old c d)

abbrev pub Keeps : {X : Type 0} → (ℕ → ℕ → X) → (ℕ → ℕ → X) → Type 0
Keeps old new = (c d : ℕ) → new c d ≡ old c d

-- two numbers as one, which no other two share whose second is below 2 ^ 32
abbrev pub one_number : ℕ → ℕ → ℕ
one_number a b = a * 4294967296 + b

-- what a map has under one number
abbrev pub under : {X : Type 0} → BTreeMap ℕ X → ℕ → Option X
under m n = get nat_cmp m n

-- what a map has for two numbers
unfoldable pub mapped : {X : Type 0} → BTreeMap ℕ X → ℕ → ℕ → Option X
mapped m a b = if nat_lt b 4294967296 then under m (one_number a b) else None

-- two small numbers as one
abbrev pub near_number : ℕ → ℕ → Option ℕ
near_number a b = if nat_lt a 256 && nat_lt b 524288 then Some (a * 524288 + b) else None

abbrev pub at_number : {X : Type 0} → (ℕ → Option X) → Option ℕ → Option X
at_number near (Some n) = near n
at_number near None = None

-- what a table of small numbers has for two numbers
unfoldable pub near_part : {X : Type 0} → (ℕ → Option X) → ℕ → ℕ → Option X
near_part near a b = at_number near (near_number a b)

abbrev pub first_of : {X : Type 0} → Option X → Option X → Option X
first_of (Some x) other = Some x
first_of None other = other

-- the value of one table, or else that of another
unfoldable pub either_way : {X : Type 0} → (ℕ → ℕ → Option X) → (ℕ → ℕ → Option X) → ℕ → ℕ →
    Option X
either_way near far a b = first_of (near a b) (far a b)

abbrev pub near_of : {X : Type 0} → Pairs X → ℕ → ℕ → Option X
near_of pairs = near_part (in_leaves pairs.near.leaves.items)

abbrev pub found_pair : {X : Type 0} → Pairs X → ℕ → ℕ → Option X
found_pair pairs a b = either_way (near_of pairs) (mapped pairs.far) a b
