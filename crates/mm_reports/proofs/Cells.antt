-- How many frames a cell has at most.
use Rattle.std.proofs.Common.{◌≤◌, Bool, List, arith}
use Rattle.std.specs.Prelude.{count_by, filter}
use Rattle.std.proofs.lemmas.List.Sums.{count_by-le-length, length-filter}

pub count_filter : {A : Type 0} (p q : A → Bool) → (xs : List A) → count_by p (filter q xs) ≤ count_by q xs
count_filter p q xs = omega (arith, count_by-le-length p (filter q xs), length-filter q xs)

pub ruleset cells = (count_filter)
