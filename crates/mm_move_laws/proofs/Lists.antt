-- Numbers that leave a list, and cells that are set back.
use Rattle.std.proofs.Common.{◌≡◌, ℕ, zero, suc, ◌+◌, Bool, true, false, cond, not, List, [], ◌∷◌, ◌++◌, Some, refl, sym, ap, ◌∙◌, arith}
use Rattle.mm_types.proofs.Bytes.{append_nil}
use Rattle.std.specs.Prelude.{◌==◌, slice_get, slice_set, slice_index_or}
use Rattle.std.specs.Cmp.{unsigned_Decides}
use Rattle.mm_move_rules.specs.{without}
use Rattle.mm_move_laws.specs.{one_if, times}

-- a number that is not on the list
pub without_none : (f : ℕ) (xs : List ℕ) → times f xs ≡ 0 → without f xs ≡ xs
without_none f [] h = refl
without_none f (x ∷ xs) h = at (x == f) h (without_none f xs)
  where
    at : (b : Bool) → one_if b + times f xs ≡ 0 → (times f xs ≡ 0 → without f xs ≡ xs) → cond (not b) (x ∷ without f xs) (without f xs) ≡ x ∷ xs
    at true g k = absurd (omega (arith, g))
    at false g k = ap (λ (ys : List ℕ). x ∷ ys) (k (omega (arith, g)))

pub without_append : (f : ℕ) (xs ys : List ℕ) → without f (xs ++ ys) ≡ without f xs ++ without f ys
without_append f [] ys = refl
without_append f (x ∷ xs) ys = at (x == f) (without_append f xs ys)
  where
    at : (b : Bool) → without f (xs ++ ys) ≡ without f xs ++ without f ys → cond (not b) (x ∷ without f (xs ++ ys)) (without f (xs ++ ys)) ≡ cond (not b) (x ∷ without f xs) (without f xs) ++ without f ys
    at true e = e
    at false e = ap (λ (zs : List ℕ). x ∷ zs) e

pub without_self : (f : ℕ) (xs : List ℕ) → without f (f ∷ xs) ≡ without f xs
without_self f xs = ap (λ b. cond (not b) (f ∷ without f xs) (without f xs)) ((unsigned_Decides f f).1 refl)

-- a request that begins and ends
pub begun_ended : (f : ℕ) (xs : List ℕ) → times f xs ≡ 0 → without f (xs ++ f ∷ []) ≡ xs
begun_ended f xs h = without_append f xs (f ∷ []) ∙ (ap (λ (ys : List ℕ). without f xs ++ ys) (without_self f []) ∙ (append_nil (without f xs) ∙ without_none f xs h))

-- a cell that is set and set back
pub set_back : {A : Type 0} (xs : List A) (i : ℕ) (a b : A) → slice_get xs i ≡ Some b → slice_set (slice_set xs i a) i b ≡ xs
set_back [] i a b e = cc
set_back (x ∷ xs) zero a b e = let same : x ≡ b = cc in ap (λ y. y ∷ xs) (sym same)
set_back (x ∷ xs) (suc i) a b e = ap (λ ys. x ∷ ys) (set_back xs i a b e)

pub set_back_or : {A : Type 0} (xs : List A) (i : ℕ) (a b d : A) → slice_index_or xs i d ≡ b → slice_set (slice_set xs i a) i b ≡ xs
set_back_or [] i a b d e = refl
set_back_or (x ∷ xs) zero a b d e = ap (λ y. y ∷ xs) (sym e)
set_back_or (x ∷ xs) (suc i) a b d e = ap (λ ys. x ∷ ys) (set_back_or xs i a b d e)
