-- Numbers at the places of a list: one more after the last, one taken out.
use Rattle.std.proofs.Common.{◌≡◌, ◌≢◌, ◌⊎◌, ℕ, zero, suc, ◌<◌, ◌≤◌, List, [], ◌∷◌, ◌++◌, length, drop, Some, None, refl, ap, ◌∙◌, inl, inr, arith}
use Rattle.std.specs.Prelude.{slice_get, not, cond}
use Rattle.std.specs.Cmp.{unsigned_Decides}
use Rattle.mm_types.proofs.{same_or_not, get_within, differ}
use Rattle.mm_page_lists.specs.{without}

pub same : (x y : ℕ) → Some x ≡ Some y → x ≡ y
same x y e = cc

pub push_low : (xs : List ℕ) (x k : ℕ) → k < length xs → slice_get (xs ++ x ∷ []) k ≡ slice_get xs k
push_low [] x k h = absurd (omega arith)
push_low (y ∷ xs) x zero h = refl
push_low (y ∷ xs) x (suc k) h = push_low xs x k (omega arith)

pub push_cases : (xs : List ℕ) (x k y : ℕ) → slice_get (xs ++ x ∷ []) k ≡ Some y → ((k ≡ length xs) × (y ≡ x)) ⊎ (slice_get xs k ≡ Some y)
push_cases [] x zero y e = inl (refl, cc)
push_cases [] x (suc k) y e = let bad : None ≡ Some y = e in cc
push_cases (z ∷ xs) x zero y e = inr e
push_cases (z ∷ xs) x (suc k) y e = elim (push_cases xs x k y e) [ inl h ↦ inl (ap suc h.0, h.1) | inr h ↦ inr h ]

pub last_there : (xs : List ℕ) → 0 < length xs → (k y : ℕ) × (suc k ≡ length xs) × (slice_get xs k ≡ Some y)
last_there [] h = absurd (omega arith)
last_there (x ∷ []) h = (0, x, refl, refl)
last_there (x ∷ y ∷ xs) h = let r = last_there (y ∷ xs) (omega arith) in (suc r.0, r.1, ap suc r.2, r.3)

pub there : (xs : List ℕ) (k : ℕ) → k < length xs → (y : ℕ) × (slice_get xs k ≡ Some y)
there [] k h = absurd (omega arith)
there (x ∷ xs) zero h = (x, refl)
there (x ∷ xs) (suc k) h = there xs k (omega arith)

pub place_of : (x : ℕ) (xs : List ℕ) → ((k : ℕ) × (slice_get xs k ≡ Some x)) ⊎ ((k : ℕ) → slice_get xs k ≡ Some x → ⊥)
place_of x [] = inr (λ k e. cc)
place_of x (y ∷ xs) = elim (same_or_not y x) [
  | inl e ↦ inl (0, ap (λ (z : ℕ). Some z) e)
  | inr d ↦ elim (place_of x xs) [
    | inl h ↦ inl (suc h.0, h.1)
    | inr none ↦ inr (λ k. elim k as (λ (k : ℕ). slice_get (y ∷ xs) k ≡ Some x → ⊥) [ zero ↦ λ e. d (same y x e) | suc k ↦ λ e. none k e ])
  ]
]

-- the list without what stands at place p
abbrev pub cut : List ℕ → ℕ → List ℕ
cut [] p = []
cut (x ∷ xs) zero = xs
cut (x ∷ xs) (suc p) = x ∷ cut xs p

pub length-cut : (xs : List ℕ) (p : ℕ) → p < length xs → suc (length (cut xs p)) ≡ length xs
length-cut [] p h = absurd (omega arith)
length-cut (x ∷ xs) zero h = refl
length-cut (x ∷ xs) (suc p) h = ap suc (length-cut xs p (omega arith))

pub cut_cases : (xs : List ℕ) (p k y : ℕ) → slice_get (cut xs p) k ≡ Some y → ((k < p) × (slice_get xs k ≡ Some y)) ⊎ ((p ≤ k) × (slice_get xs (suc k) ≡ Some y))
cut_cases [] p k y e = let bad : None ≡ Some y = e in cc
cut_cases (x ∷ xs) zero k y e = inr (omega arith, e)
cut_cases (x ∷ xs) (suc p) zero y e = inl (omega arith, e)
cut_cases (x ∷ xs) (suc p) (suc k) y e = elim (cut_cases xs p k y e) [
  | inl h ↦ inl (omega (arith, h.0), h.1)
  | inr h ↦ inr (omega (arith, h.0), h.1)
]

pub drop_one : (xs : List ℕ) → drop 1 xs ≡ cut xs 0
drop_one [] = refl
drop_one (x ∷ xs) = refl

pub without_other : (x : ℕ) (xs : List ℕ) → ((k : ℕ) → slice_get xs k ≡ Some x → ⊥) → without x xs ≡ xs
without_other x [] none = refl
without_other x (y ∷ xs) none =
    let apart : y ≢ x = λ e. none 0 (ap (λ (z : ℕ). Some z) e) in
    ap (λ b. cond (not b) (y ∷ without x xs) (without x xs)) (differ y x apart)
    ∙ ap (λ ys. y ∷ ys) (without_other x xs (λ k. none (suc k)))

pub without_one : (x : ℕ) (xs : List ℕ) (p : ℕ) → slice_get xs p ≡ Some x → ((k : ℕ) → slice_get xs k ≡ Some x → k ≡ p) → without x xs ≡ cut xs p
without_one x [] p at once = let bad : None ≡ Some x = at in cc
without_one x (y ∷ xs) zero at once =
    ap (λ b. cond (not b) (y ∷ without x xs) (without x xs)) ((unsigned_Decides y x).1 (same y x at))
    ∙ without_other x xs (λ k e. let bad : suc k ≡ 0 = once (suc k) e in omega arith)
without_one x (y ∷ xs) (suc p) at once =
    let apart : y ≢ x = λ e. let bad : 0 ≡ suc p = once 0 (ap (λ (z : ℕ). Some z) e) in omega arith in
    ap (λ b. cond (not b) (y ∷ without x xs) (without x xs)) (differ y x apart)
    ∙ ap (λ ys. y ∷ ys) (without_one x xs p at (λ k e. let s : suc k ≡ suc p = once (suc k) e in omega arith))

-- numbers below n that stand at one place each are at most n
pub few : (n : ℕ) (xs : List ℕ) → ((k x : ℕ) → slice_get xs k ≡ Some x → x < n) → ((k m x : ℕ) → slice_get xs k ≡ Some x → slice_get xs m ≡ Some x → k ≡ m) → length xs ≤ n
few zero [] below once = omega arith
few zero (x ∷ xs) below once = let bad : x < 0 = below 0 x refl in absurd (omega arith)
few (suc n) xs below once = elim (place_of n xs) [
  | inl h ↦
      let p = h.0 in
      let inside : p < length xs = get_within xs p n h.1 in
      let rest : length (cut xs p) ≤ n = few n (cut xs p)
      (λ k x e. elim (cut_cases xs p k x e) [
        | inl o ↦
            let apart : x ≢ n = λ s. let bad : k ≡ p = once k p n (o.1 ∙ ap (λ (z : ℕ). Some z) s) h.1 in omega (arith, o.0) in
            omega (arith, below k x o.1)
        | inr o ↦
            let apart : x ≢ n = λ s. let bad : suc k ≡ p = once (suc k) p n (o.1 ∙ ap (λ (z : ℕ). Some z) s) h.1 in omega (arith, o.0) in
            omega (arith, below (suc k) x o.1)
      ])
      (λ k m x e f. elim (cut_cases xs p k x e) [
        | inl o ↦ elim (cut_cases xs p m x f) [
          | inl q ↦ once k m x o.1 q.1
          | inr q ↦ let s : k ≡ suc m = once k (suc m) x o.1 q.1 in omega (arith, o.0, q.0)
        ]
        | inr o ↦ elim (cut_cases xs p m x f) [
          | inl q ↦ let s : suc k ≡ m = once (suc k) m x o.1 q.1 in omega (arith, o.0, q.0)
          | inr q ↦ let s : suc k ≡ suc m = once (suc k) (suc m) x o.1 q.1 in omega arith
        ]
      ]) in
      omega (arith, rest, length-cut xs p inside)
  | inr none ↦
      let rest : length xs ≤ n = few n xs (λ k x e. let apart : x ≢ n = λ s. none k (e ∙ ap (λ (z : ℕ). Some z) s) in omega (arith, below k x e)) once in
      omega arith
]
