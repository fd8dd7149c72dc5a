-- How tallies change with the list.
use Rattle.std.proofs.Common.{◌≡◌, ◌≢◌, ℕ, zero, suc, ◌+◌, ◌≤◌, Bool, true, false, cond, not, List, [], ◌∷◌, ◌++◌, length, refl, sym, ap, ◌∙◌, arith}
use Rattle.std.specs.Prelude.{◌==◌, ◌||◌, nat_lt, filter}
use Rattle.std.specs.Cmp.{unsigned_Decides}
use Rattle.std.proofs.lemmas.Bool.{eqb-true}
use Rattle.std.proofs.lemmas.Bool.Decides.{nat_tests}
use Rattle.mm_types.proofs.Tables.{differ}
use Rattle.mm_move_rules.specs.{is_first, is_on, without, rest, numbers_from}
use Rattle.mm_move_laws.specs.{one_if, tally, times}

more_of : (s t : Bool) (m n : ℕ) → (s ≡ true → t ≡ true) → m ≤ n → one_if s + m ≤ one_if t + n
more_of true false m n h l = let bad : false ≡ true = h refl in cc
more_of _ _ m n h l = omega (arith, l)

module _ {A : Type 0} where
  pub tally-append : (p : A → Bool) (xs ys : List A) → tally p (xs ++ ys) ≡ tally p xs + tally p ys
  tally-append p [] ys = omega arith
  tally-append p (x ∷ xs) ys = let h = tally-append p xs ys in omega (arith, h)

  -- two tests that agree but at elements that are not on the list
  pub tally-but : (same p q : A → Bool) (xs : List A) → tally same xs ≡ 0 → ((x : A) → same x ≡ false → p x ≡ q x) → tally p xs ≡ tally q xs
  tally-but same p q [] none agree = refl
  tally-but same p q (x ∷ xs) none agree =
      let low : tally same xs ≡ 0 = omega arith in
      let e : p x ≡ q x = agree x (unless (same x) (omega arith)) in
      omega (arith, tally-but same p q xs low agree, ap one_if e)
    where
      unless : (b : Bool) → one_if b ≡ 0 → b ≡ false
      unless true e = absurd (omega arith)
      unless false e = refl

  left_out : (same p : A → Bool) (b s : Bool) (x : A) (xs : List A) → (s ≡ true → p x ≡ b) → tally p (filter (λ y. not (same y)) xs) + cond b (tally same xs) 0 ≡ tally p xs → tally p (cond (not s) (x ∷ filter (λ y. not (same y)) xs) (filter (λ y. not (same y)) xs)) + cond b (one_if s + tally same xs) 0 ≡ one_if (p x) + tally p xs
  left_out same p true true x xs h l = let one : one_if (p x) ≡ 1 = ap one_if (h refl) in omega (arith, one, l)
  left_out same p false true x xs h l = let one : one_if (p x) ≡ 0 = ap one_if (h refl) in omega (arith, one, l)
  left_out same p true false x xs h l = omega (arith, l)
  left_out same p false false x xs h l = omega (arith, l)

  -- the elements that are the same as one are left out
  pub tally-without : (same p : A → Bool) (b : Bool) (xs : List A) → ((x : A) → same x ≡ true → p x ≡ b) → tally p (filter (λ x. not (same x)) xs) + cond b (tally same xs) 0 ≡ tally p xs
  tally-without same p true [] h = refl
  tally-without same p false [] h = refl
  tally-without same p b (x ∷ xs) h = left_out same p b (same x) x xs (h x) (tally-without same p b xs h)

  -- a test that passes wherever another does
  pub tally-more : (same p : A → Bool) (xs : List A) → ((x : A) → same x ≡ true → p x ≡ true) → tally same xs ≤ tally p xs
  tally-more same p [] h = omega arith
  tally-more same p (x ∷ xs) h = more_of (same x) (p x) (tally same xs) (tally p xs) (h x) (tally-more same p xs h)

  one_less : (b : Bool) (x : A) (xs ys : List A) (n : ℕ) → length ys + n ≡ length xs → length (cond (not b) (x ∷ ys) ys) + (one_if b + n) ≡ suc (length xs)
  one_less true x xs ys n h = omega (arith, h)
  one_less false x xs ys n h = omega (arith, h)

  pub length-left : (same : A → Bool) (xs : List A) → length (filter (λ x. not (same x)) xs) + tally same xs ≡ length xs
  length-left same [] = refl
  length-left same (x ∷ xs) = one_less (same x) x xs (filter (λ y. not (same y)) xs) (tally same xs) (length-left same xs)

-- ---- numbers on lists

pub times_self : (f : ℕ) → times f (f ∷ []) ≡ 1
times_self f = let e : one_if (f == f) ≡ 1 = ap one_if ((unsigned_Decides f f).1 refl) in omega (arith, e)

pub times_alone : (f g : ℕ) → g ≢ f → times g (f ∷ []) ≡ 0
times_alone f g d = let e : one_if (f == g) ≡ 0 = ap one_if (differ f g (λ s. d (sym s))) in omega (arith, e)

pub times-push_same : (f : ℕ) (xs : List ℕ) → times f (xs ++ f ∷ []) ≡ times f xs + 1
times-push_same f xs = omega (arith, tally-append (λ x. x == f) xs (f ∷ []), times_self f)

pub times-push_other : (f g : ℕ) (xs : List ℕ) → g ≢ f → times g (xs ++ f ∷ []) ≡ times g xs
times-push_other f g xs d = omega (arith, tally-append (λ x. x == g) xs (f ∷ []), times_alone f g d)

pub times-without_same : (f : ℕ) (xs : List ℕ) → times f (without f xs) ≡ 0
times-without_same f xs = omega (arith, tally-without (λ x. x == f) (λ x. x == f) true xs (λ x e. e))

pub times-without_other : (f g : ℕ) (xs : List ℕ) → g ≢ f → times g (without f xs) ≡ times g xs
times-without_other f g xs d = omega (arith, tally-without (λ x. x == f) (λ x. x == g) false xs (λ x e. differ x g (λ s. d (sym s ∙ eqb-true x f e))))

pub times-rest_same : (f : ℕ) (xs : List ℕ) → is_first f xs ≡ true → times f xs ≡ times f (rest xs) + 1
times-rest_same f [] e = cc
times-rest_same f (x ∷ xs) e = let one : one_if (x == f) ≡ 1 = ap one_if e in omega (arith, one)

pub times-rest_other : (f g : ℕ) (xs : List ℕ) → g ≢ f → is_first f xs ≡ true → times g (rest xs) ≡ times g xs
times-rest_other f g [] d e = refl
times-rest_other f g (x ∷ xs) d e = let none : one_if (x == g) ≡ 0 = ap one_if (differ x g (λ s. d (sym s ∙ eqb-true x f e))) in omega (arith, none)

on_more : (b c : Bool) (n : ℕ) → (b || c) ≡ true → (c ≡ true → 1 ≤ n) → 1 ≤ one_if b + n
on_more true c n e h = omega arith
on_more false c n e h = let k = h e in omega (arith, k)

pub times_on : (f : ℕ) (xs : List ℕ) → is_on f xs ≡ true → 1 ≤ times f xs
times_on f [] e = cc
times_on f (x ∷ xs) e = on_more (x == f) (is_on f xs) (times f xs) e (times_on f xs)

pub length-without : (f : ℕ) (xs : List ℕ) → length (without f xs) + times f xs ≡ length xs
length-without f xs = length-left (λ x. x == f) xs

pub times-numbers : (count n f : ℕ) → times f (numbers_from n count) + one_if (nat_lt f n) ≡ one_if (nat_lt f (n + count))
times-numbers zero n f = let e : one_if (nat_lt f n) ≡ one_if (nat_lt f (n + 0)) = ap (λ (k : ℕ). one_if (nat_lt f k)) (omega arith) in omega (arith, e)
times-numbers (suc count) n f =
    let e : one_if (nat_lt f (n + 1 + count)) ≡ one_if (nat_lt f (n + suc count)) = ap (λ (k : ℕ). one_if (nat_lt f k)) (omega arith) in
    let step : one_if (n == f) + one_if (nat_lt f n) ≡ one_if (nat_lt f (n + 1)) = grind (arith, nat_tests) in
    omega (arith, times-numbers count (n + 1) f, e, step)
