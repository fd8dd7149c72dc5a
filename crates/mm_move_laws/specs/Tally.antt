-- How many elements of a list pass a test.
use Rattle.std.specs.Prelude.{ℕ, ◌+◌, Bool, ◌==◌, if◌then◌else◌, List, [], ◌∷◌}

-- 1 where the test holds, else 0
abbrev pub one_if : Bool → ℕ
one_if b = if b then 1 else 0

-- how many elements pass the test
abbrev pub tally : {A : Type 0} → (A → Bool) → List A → ℕ
tally test [] = 0
tally test (x ∷ xs) = one_if (test x) + tally test xs

-- how often a number stands on a list
abbrev pub times : ℕ → List ℕ → ℕ
times f xs = tally (λ x. x == f) xs
