-- A list as a table from numbers: what `slice_get` finds after `slice_set`.
use Rattle.std.proofs.Common.{◌≡◌, ◌≢◌, ◌⊎◌, ℕ, zero, suc, ◌<◌, List, [], ◌∷◌, length, Some, refl, sym, ap, ◌∙◌, subst, inl, inr, arith}
use Rattle.std.specs.Prelude.{slice_get, slice_set, true, false, ◌==◌}
use Rattle.std.specs.Cmp.{unsigned_Decides}

pub get_set_same : {A : Type 0} (xs : List A) (i : ℕ) (x : A) → i < length xs → slice_get (slice_set xs i x) i ≡ Some x
get_set_same [] i x h = absurd (omega arith)
get_set_same (y ∷ xs) zero x h = refl
get_set_same (y ∷ xs) (suc i) x h = get_set_same xs i x (omega arith)

pub get_set_other : {A : Type 0} (xs : List A) (i j : ℕ) (x : A) → j ≢ i → slice_get (slice_set xs i x) j ≡ slice_get xs j
get_set_other [] i j x h = refl
get_set_other (y ∷ xs) zero zero x h = absurd (h refl)
get_set_other (y ∷ xs) zero (suc j) x h = refl
get_set_other (y ∷ xs) (suc i) zero x h = refl
get_set_other (y ∷ xs) (suc i) (suc j) x h = get_set_other xs i j x (λ e. h (ap suc e))

pub same_or_not : (j i : ℕ) → (j ≡ i) ⊎ (j ≢ i)
same_or_not j i = elim (j == i) as (λ b. (j == i) ≡ b → (j ≡ i) ⊎ (j ≢ i)) [
  | true ↦ λ e. inl ((unsigned_Decides j i).0 e)
  | false ↦ λ e. inr (λ h. let t = (unsigned_Decides j i).1 h in let bad : true ≡ false = sym t ∙ e in cc)
] refl

-- what stands in a cell after a write
pub set_cases : {A : Type 0} (xs : List A) (i j : ℕ) (x y : A) → i < length xs → slice_get (slice_set xs i x) j ≡ Some y → ((j ≡ i) × (x ≡ y)) ⊎ ((j ≢ i) × (slice_get xs j ≡ Some y))
set_cases xs i j x y h e = elim (same_or_not j i) [
  | inl same ↦
      let at_i : slice_get (slice_set xs i x) i ≡ Some y = subst (λ (k : ℕ). slice_get (slice_set xs i x) k ≡ Some y) same e in
      let both : Some x ≡ Some y = sym (get_set_same xs i x h) ∙ at_i in
      inl (same, cc)
  | inr other ↦ inr (other, sym (get_set_other xs i j x other) ∙ e)
]

pub get_within : {A : Type 0} (xs : List A) (i : ℕ) (x : A) → slice_get xs i ≡ Some x → i < length xs
get_within [] i x e = cc
get_within (y ∷ xs) zero x e = omega arith
get_within (y ∷ xs) (suc i) x e = let h = get_within xs i x e in omega arith
