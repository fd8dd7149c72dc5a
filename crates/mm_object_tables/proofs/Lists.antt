-- What is found in a list with one more, one less, or one changed; and ranges of a list that are changed.
use Rattle.std.proofs.Common.{◌≡◌, ℕ, zero, suc, ◌+◌, ◌*◌, ◌≤◌, ◌<◌, Bool, true, false, Some, List, [], ◌∷◌, ◌++◌, refl, sym, ◌∙◌, ap, cond, arith, length, set, slice_get, map, take, drop, is_some, ◌&&◌, ◌||◌, nat_le, nat_lt, count_by, option_map, replicate, Option, None, ◌≢◌, get_or, unwrap_or}
use Rattle.std.specs.Prelude.{◌==◌, IfSome}
use Rattle.std.specs.List.{list_any}
use Rattle.std.proofs.lemmas.Bool.{leb-true, le-leb}
use Rattle.std.proofs.lemmas.List.{length-take, length-drop}
use Rattle.std.proofs.lemmas.List.Folds.{list_any-append, sum_by-replicate}
use Rattle.std.proofs.lemmas.List.Sums.{sum_by-cons, sum_by-append}
use Rattle.std.specs.Cmp.{unsigned_Decides}
use Rattle.mm_types.proofs.{both, or_left, or_right}
use Rattle.mm_world.specs.{first_where, one_later, change_range, no_area, AreaOf}
use Rattle.mm_world.proofs.{some-map, and-true, less, sum_by-split}

-- ---- what is found

pub found-cons : {A : Type 0} (test : A → Bool) (x : A) (xs : List A) → is_some (first_where test (x ∷ xs)) ≡ (test x || is_some (first_where test xs))
found-cons test x xs = by_test (test x)
  where
    by_test : (b : Bool) → is_some (cond b (Some (record { place = 0; thing = x })) (option_map one_later (first_where test xs))) ≡ (b || is_some (first_where test xs))
    by_test true = refl
    by_test false = some-map one_later (first_where test xs)

pub found-set : {A : Type 0} (test : A → Bool) (xs : List A) (i : ℕ) (x y : A) → slice_get xs i ≡ Some x → test y ≡ test x → is_some (first_where test (set xs i y)) ≡ is_some (first_where test xs)
found-set test [] i x y at same = cc
found-set test (z ∷ xs) zero x y at same =
    let is : z ≡ x = cc in
    found-cons test y xs ∙ ap (λ b. b || is_some (first_where test xs)) (same ∙ ap test (sym is)) ∙ sym (found-cons test z xs)
found-set test (z ∷ xs) (suc i) x y at same =
    found-cons test z (set xs i y) ∙ ap (λ b. test z || b) (found-set test xs i x y at same) ∙ sym (found-cons test z xs)

-- ---- changed ranges

abbrev pub is_between : ℕ → ℕ → ℕ → Bool
is_between first count k = nat_le first k && nat_lt k (first + count)

pub get_in : {A : Type 0} (change : A → A) (first count : ℕ) (xs : List A) (k : ℕ) → first ≤ k → k < first + count → slice_get (change_range change first count xs) k ≡ option_map change (slice_get xs k)
get_in change zero (suc count) [] k low high = refl
get_in change zero (suc count) (x ∷ xs) zero low high = refl
get_in change zero (suc count) (x ∷ xs) (suc k) low high = get_in change zero count xs k (omega arith) (omega arith)
get_in change (suc first) (suc count) [] k low high = refl
get_in change (suc first) (suc count) (x ∷ xs) (suc k) low high = get_in change first (suc count) xs k (omega arith) (omega arith)
get_in change _ _ _ _ low high = absurd (omega arith)

pub get_out : {A : Type 0} (change : A → A) (first count : ℕ) (xs : List A) (k : ℕ) → (first ≤ k → k < first + count → ⊥) → slice_get (change_range change first count xs) k ≡ slice_get xs k
get_out change zero zero xs k out = refl
get_out change zero (suc count) [] k out = refl
get_out change zero (suc count) (x ∷ xs) zero out = absurd (out (omega arith) (omega arith))
get_out change zero (suc count) (x ∷ xs) (suc k) out = get_out change zero count xs k (λ a b. out (omega arith) (omega arith))
get_out change (suc first) zero [] k out = refl
get_out change (suc first) (suc count) [] k out = refl
get_out change (suc first) count (x ∷ xs) zero out = refl
get_out change (suc first) count (x ∷ xs) (suc k) out = get_out change first count xs k (λ a b. out (omega arith) (omega arith))

pub get-change_range : {A : Type 0} (change : A → A) (first count : ℕ) (xs : List A) (k : ℕ) → slice_get (change_range change first count xs) k ≡ cond (is_between first count k) (option_map change (slice_get xs k)) (slice_get xs k)
get-change_range change first count xs k = by_test (is_between first count k) refl
  where
    by_test : (b : Bool) → is_between first count k ≡ b → slice_get (change_range change first count xs) k ≡ cond b (option_map change (slice_get xs k)) (slice_get xs k)
    by_test true e =
        let h = and-true (nat_le first k) (nat_lt k (first + count)) e in
        get_in change first count xs k (leb-true _ _ h.0) (less _ _ h.1)
    by_test false e =
        get_out change first count xs k (λ low high.
        let bad : true ≡ false = sym (both (nat_le first k) (nat_lt k (first + count)) (le-leb _ _ low) (le-leb _ _ (omega (arith, high)))) ∙ e in
        cc)

-- ---- counts

abbrev pub one_if : Bool → ℕ
one_if b = cond b 1 0

abbrev pub counted : {A : Type 0} → (A → Bool) → A → ℕ
counted test x = one_if (test x)

-- how many pass the test in the range before and after
pub count-change_range : {A : Type 0} (test : A → Bool) (change : A → A) (first count : ℕ) (xs : List A) → count_by test (change_range change first count xs) + count_by test (take count (drop first xs)) ≡ count_by test xs + count_by test (map change (take count (drop first xs)))
count-change_range test change first count xs =
    let f = counted test in
    let later = drop first xs in
    let middle = map change (take count later) in
    omega (arith, sum_by-append f (take first xs ++ middle) (drop count later), sum_by-append f (take first xs) middle, sum_by-split f xs first, sum_by-split f later count)

pub count-all : {A : Type 0} (test : A → Bool) (change : A → A) (xs : List A) → ((x : A) → test (change x) ≡ true) → count_by test (map change xs) ≡ length xs
count-all test change [] all = refl
count-all test change (x ∷ xs) all =
    omega (arith, sum_by-cons (counted test) (change x) (map change xs), ap one_if (all x), count-all test change xs all)

pub count-same : {A : Type 0} (test : A → Bool) (change : A → A) (xs : List A) → ((x : A) → test (change x) ≡ test x) → count_by test (map change xs) ≡ count_by test xs
count-same test change [] same = refl
count-same test change (x ∷ xs) same =
    omega (arith, sum_by-cons (counted test) (change x) (map change xs), sum_by-cons (counted test) x xs, ap one_if (same x), count-same test change xs same)

pub count-replicate : {A : Type 0} (test : A → Bool) (n : ℕ) (x : A) → count_by test (replicate n x) ≡ cond (test x) n 0
count-replicate test n x = sum_by-replicate (counted test) n x ∙ by_test (test x)
  where
    by_test : (b : Bool) → n * one_if b ≡ cond b n 0
    by_test true = omega arith
    by_test false = omega arith

pub get-drop : {A : Type 0} (n : ℕ) (xs : List A) (k : ℕ) → slice_get (drop n xs) k ≡ slice_get xs (n + k)
get-drop zero xs k = ap (slice_get xs) (let same : k ≡ 0 + k = omega arith in same)
get-drop (suc n) [] k = refl
get-drop (suc n) (x ∷ xs) k = get-drop n xs k ∙ ap (slice_get (x ∷ xs)) (let same : suc (n + k) ≡ suc n + k = omega arith in same)

pub count-more : {A : Type 0} (test : A → Bool) (ys : List A) (n : ℕ) (x : A) → slice_get ys n ≡ Some x → count_by test (take (suc n) ys) ≡ count_by test (take n ys) + cond (test x) 1 0
count-more test [] n x at = cc
count-more test (y ∷ ys) zero x at =
    let same : y ≡ x = cc in
    omega (arith, sum_by-cons (counted test) y [], ap (λ y. one_if (test y)) same)
count-more test (y ∷ ys) (suc n) x at =
    omega (arith, sum_by-cons (counted test) y (take (suc n) ys), sum_by-cons (counted test) y (take n ys), count-more test ys n x at)

-- one more element of a range
pub count-next : {A : Type 0} (test : A → Bool) (xs : List A) (first n : ℕ) (x : A) → slice_get xs (first + n) ≡ Some x → count_by test (take (suc n) (drop first xs)) ≡ count_by test (take n (drop first xs)) + cond (test x) 1 0
count-next test xs first n x at = count-more test (drop first xs) n x (get-drop first xs n ∙ at)

pub length-range : {A : Type 0} (xs : List A) (first n : ℕ) → first + n ≤ length xs → length (take n (drop first xs)) ≡ n
length-range xs first n inside = omega (arith, length-take n (drop first xs), length-drop first xs)

-- ---- things by number

pub none_replicated : {A : Type 0} (n i : ℕ) → ◌≡◌ {A = Option A} (get_or (replicate n None) i None) None
none_replicated (suc n) (suc i) = none_replicated n i
none_replicated _ _ = refl

abbrev pub by_cell : {A : Type 0} → Option (Option A) → Option A
by_cell None = None
by_cell (Some o) = o

pub numbered_got : {A : Type 0} (xs : List (Option A)) (i : ℕ) → get_or xs i None ≡ by_cell (slice_get xs i)
numbered_got (y ∷ ys) (suc i) = numbered_got ys i
numbered_got _ _ = refl

-- ---- tests

pub same_number : (n m : ℕ) → n ≡ m → (n == m) ≡ true
same_number n m e = (unsigned_Decides n m).1 e

pub same_some : {A : Type 0} (x y : A) → Some x ≡ Some y → x ≡ y
same_some x y e = cc

pub if_some : {A : Type 0} (o : Option A) (P : A → Type 0) → ((x : A) → o ≡ Some x → P x) → IfSome o P
if_some None P h = tt
if_some (Some x) P h = h x refl

-- ---- one more

module _ {B : Type 0} where
  abbrev pub area_in : List (AreaOf B) → ℕ → AreaOf B
  area_in areas area = unwrap_or (slice_get areas area) no_area

  pub area_at_end : (areas : List (AreaOf B)) (a : AreaOf B) (q : ℕ) → q ≡ length areas → area_in (areas ++ a ∷ []) q ≡ a
  area_at_end [] a zero e = refl
  area_at_end (b ∷ areas) a (suc q) e = area_at_end areas a q (omega (arith, e))
  area_at_end _ a _ e = absurd (omega (arith, e))

  pub area_before : (areas : List (AreaOf B)) (a : AreaOf B) (q : ℕ) → q ≢ length areas → area_in (areas ++ a ∷ []) q ≡ area_in areas q
  area_before [] a zero n = absurd (n refl)
  area_before (b ∷ areas) a (suc q) n = area_before areas a q (λ e. n (ap suc e))
  area_before _ a _ n = refl

  pub no_area_past : (areas : List (AreaOf B)) (q : ℕ) → length areas ≤ q → area_in areas q ≡ no_area
  no_area_past [] q h = refl
  no_area_past (b ∷ areas) zero h = absurd (omega arith)
  no_area_past (b ∷ areas) (suc q) h = no_area_past areas q (omega arith)

-- ---- searches

module _ {A : Type 0} (test : A → Bool) where
  pub any_more : (xs : List A) (x : A) → list_any test xs ≡ true → list_any test (xs ++ x ∷ []) ≡ true
  any_more xs x e = list_any-append test xs (x ∷ []) ∙ or_left (list_any test xs) (list_any test (x ∷ [])) e

  pub any_last : (xs : List A) (x : A) → test x ≡ true → list_any test (xs ++ x ∷ []) ≡ true
  any_last xs x e = list_any-append test xs (x ∷ []) ∙ or_right (list_any test xs) (list_any test (x ∷ [])) (or_left (test x) false e)
