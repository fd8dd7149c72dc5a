-- The numbers in turn from one on.
use Rattle.std.proofs.Common.{◌≡◌, ℕ, zero, suc, ◌+◌, ◌<◌, [], ◌∷◌, ◌++◌, Some, None, ap, ◌∙◌, arith}
use Rattle.std.specs.Prelude.{slice_get}
use Rattle.mm_move_rules.specs.{numbers_from}

numbers_more : (a i : ℕ) → numbers_from a (suc i) ≡ numbers_from a i ++ (a + i) ∷ []
numbers_more a zero = let e : a ≡ a + 0 = omega arith in ap (λ (n : ℕ). n ∷ []) e
numbers_more a (suc i) =
    let e : (a + 1) + i ≡ a + suc i = omega arith in
    ap (λ xs. a ∷ xs) (numbers_more (a + 1) i ∙ ap (λ (n : ℕ). numbers_from (a + 1) i ++ n ∷ []) e)

pub numbers_next : (i : ℕ) → numbers_from 0 (i + 1) ≡ numbers_from 0 i ++ i ∷ []
numbers_next i =
    let one : i + 1 ≡ suc i = omega arith in
    let at : 0 + i ≡ i = omega arith in
    ap (numbers_from 0) one ∙ numbers_more 0 i ∙ ap (λ (n : ℕ). numbers_from 0 i ++ n ∷ []) at

pub numbers_in : (a n k g : ℕ) → slice_get (numbers_from a n) k ≡ Some g → g < a + n
numbers_in a zero k g e = let bad : None ≡ Some g = e in cc
numbers_in a (suc n) zero g e = let s : a ≡ g = cc in omega arith
numbers_in a (suc n) (suc k) g e = let h = numbers_in (a + 1) n k g e in omega arith

pub numbers_at : (a n k : ℕ) → k < n → slice_get (numbers_from a n) k ≡ Some (a + k)
numbers_at a zero k h = absurd (omega arith)
numbers_at a (suc n) zero h = let e : a ≡ a + 0 = omega arith in ap (λ (q : ℕ). Some q) e
numbers_at a (suc n) (suc k) h = let e : (a + 1) + k ≡ a + suc k = omega arith in numbers_at (a + 1) n k (omega arith) ∙ ap (λ (q : ℕ). Some q) e
