-- Sums over numbers and over lists, and sums in either order.
use Rattle.std.proofs.Common.{◌≡◌, ℕ, zero, suc, ◌+◌, ◌<◌, ◌≤◌, Bool, true, false, cond, List, [], ◌∷◌, length, Option, Some, None, refl, sym, ap, ◌∙◌, inl, inr, arith}
use Rattle.std.specs.Prelude.{◌==◌, nat_lt, count_by, slice_index_or}
use Rattle.std.specs.Cmp.{unsigned_Decides}
use Rattle.std.proofs.lemmas.List.Sums.{sum_by-cons}
use Rattle.std.proofs.lemmas.Bool.{cases_lt, lt-ltb, le-ltb}
use Rattle.mm_types.specs.{Frame}
use Rattle.mm_move_laws.specs.{one_if, tally, times, sum_to, total}
use Rattle.mm_move_rules.specs.{is_frame}
use Rattle.std.proofs.lemmas.Bool.Decides.{nat_tests}

pub one_most : (b : Bool) → one_if b ≤ 1
one_most true = omega arith
one_most false = omega arith

pub one_within : (a b : Bool) → (a ≡ true → b ≡ true) → one_if a ≤ one_if b
one_within true b h = let one : one_if b ≡ 1 = ap one_if (h refl) in omega (arith, one)
one_within false b h = omega arith

-- ---- over the numbers below n

pub sum-most : (h k : ℕ → ℕ) (n : ℕ) → ((f : ℕ) → f < n → h f ≤ k f) → sum_to h n ≤ sum_to k n
sum-most h k zero e = omega arith
sum-most h k (suc n) e = let a = sum-most h k n (λ f l. e f (omega (arith, l))) in let b = e n (omega arith) in omega (arith, a, b)

pub sum-same : (h k : ℕ → ℕ) (n : ℕ) → ((f : ℕ) → f < n → h f ≡ k f) → sum_to h n ≡ sum_to k n
sum-same h k zero e = refl
sum-same h k (suc n) e = let a = sum-same h k n (λ f l. e f (omega (arith, l))) in let b = e n (omega arith) in omega (arith, a, b)

pub sum-plus : (h k : ℕ → ℕ) (n : ℕ) → sum_to (λ f. h f + k f) n ≡ sum_to h n + sum_to k n
sum-plus h k zero = refl
sum-plus h k (suc n) = let a = sum-plus h k n in omega (arith, a)

pub sum-ones : (n : ℕ) → sum_to (λ f. 1) n ≡ n
sum-ones zero = refl
sum-ones (suc n) = let a = sum-ones n in omega (arith, a)

pub sum-zeros : (n : ℕ) → sum_to (λ f. 0) n ≡ 0
sum-zeros zero = refl
sum-zeros (suc n) = let a = sum-zeros n in omega (arith, a)

-- the first term apart
pub sum-front : (h : ℕ → ℕ) (n : ℕ) → sum_to h (suc n) ≡ h 0 + sum_to (λ f. h (suc f)) n
sum-front h zero = omega arith
sum-front h (suc n) = let a = sum-front h n in omega (arith, a)

-- one number alone
pub sum-one : (x n : ℕ) → sum_to (λ f. one_if (x == f)) n ≡ one_if (nat_lt x n)
sum-one x zero = ap one_if (sym (le-ltb x 0 (omega arith)))
sum-one x (suc n) =
    let step : one_if (x == n) + one_if (nat_lt x n) ≡ one_if (nat_lt x (suc n)) = grind (arith, nat_tests) in
    omega (arith, sum-one x n, step)

pub sum-inside : (x n : ℕ) → x < n → sum_to (λ f. one_if (x == f)) n ≡ 1
sum-inside x n l = sum-one x n ∙ ap one_if (lt-ltb x n l)

-- one frame, if any, is one at most
pub sum-frame : (o : Option Frame) (n : ℕ) → sum_to (λ f. one_if (is_frame f o)) n ≤ 1
sum-frame None n = let a = sum-zeros n in omega (arith, a)
sum-frame (Some g) n = let a = sum-one g.0 n in let b = one_most (nat_lt g.0 n) in omega (arith, a, b)

-- the numbers on a list are below n
pub sum-times : (xs : List ℕ) (n : ℕ) → ((f : ℕ) → n ≤ f → times f xs ≡ 0) → sum_to (λ f. times f xs) n ≡ length xs
sum-times [] n low = sum-zeros n
sum-times (x ∷ xs) n low =
    let rest = sum-times xs n (λ f l. let h = low f l in omega (arith, h)) in
    let inside : one_if (nat_lt x n) ≡ 1 = elim (cases_lt x n) [
      | inl l ↦ ap one_if (lt-ltb x n l)
      | inr l ↦ (let h = low x l in let e : one_if (x == x) ≡ 1 = ap one_if ((unsigned_Decides x x).1 refl) in absurd (omega (arith, h, e)))
    ] in
    omega (arith, rest, inside, sum-plus (λ f. one_if (x == f)) (λ f. times f xs) n, sum-one x n)

-- two sums in either order
pub sum-swap : (h : ℕ → ℕ → ℕ) (m n : ℕ) → sum_to (λ s. sum_to (h s) n) m ≡ sum_to (λ f. sum_to (λ s. h s f) m) n
sum-swap h zero n = sym (sum-zeros n)
sum-swap h (suc m) n = omega (arith, sum-swap h m n, sum-plus (λ f. sum_to (λ s. h s f) m) (h m) n)

-- ---- over the elements of a list

module _ {A : Type 0} where
  pub total-same : (h k : A → ℕ) (xs : List A) → ((x : A) → h x ≡ k x) → total h xs ≡ total k xs
  total-same h k [] e = refl
  total-same h k (x ∷ xs) e = let a = total-same h k xs e in let b = e x in omega (arith, a, b)

  pub total-plus : (h k : A → ℕ) (xs : List A) → total (λ x. h x + k x) xs ≡ total h xs + total k xs
  total-plus h k [] = refl
  total-plus h k (x ∷ xs) = let a = total-plus h k xs in omega (arith, a)

  pub total-ones : (xs : List A) → total (λ (x : A). 1) xs ≡ length xs
  total-ones [] = refl
  total-ones (x ∷ xs) = let a = total-ones xs in omega (arith, a)

  pub total-tally : (p : A → Bool) (xs : List A) → total (λ x. one_if (p x)) xs ≡ tally p xs
  total-tally p [] = refl
  total-tally p (x ∷ xs) = let a = total-tally p xs in omega (arith, a)

  -- terms that are the same for each element of the list
  pub total-listed : (same : A → A → Bool) (self : (x : A) → same x x ≡ true) (h k : A → ℕ) (xs : List A) → ((x : A) → 1 ≤ tally (same x) xs → h x ≡ k x) → total h xs ≡ total k xs
  total-listed same self h k [] e = refl
  total-listed same self h k (x ∷ xs) e =
      omega (arith, e x (omega (arith, ap one_if (self x))), total-listed same self h k xs (λ y l. e y (omega (arith, l))))

  -- a sum of tallies is one total of sums
  pub sum-tally : (p : ℕ → A → Bool) (xs : List A) (n : ℕ) → sum_to (λ f. tally (p f) xs) n ≡ total (λ x. sum_to (λ f. one_if (p f x)) n) xs
  sum-tally p [] n = sum-zeros n
  sum-tally p (x ∷ xs) n = let a = sum-tally p xs n in let b = sum-plus (λ f. one_if (p f x)) (λ f. tally (p f) xs) n in omega (arith, a, b)

  -- a count over a list is a sum over its places
  pub sum-cells : (p : A → Bool) (d : A) (xs : List A) → sum_to (λ f. one_if (p (slice_index_or xs f d))) (length xs) ≡ count_by p xs
  sum-cells p d [] = refl
  sum-cells p d (x ∷ xs) =
      let rest = sum-cells p d xs in
      omega (arith, rest, sum-front (λ f. one_if (p (slice_index_or (x ∷ xs) f d))) (length xs), sum_by-cons (λ (y : A). cond (p y) 1 0) x xs)
