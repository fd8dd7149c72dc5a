-- The lowest free slot, said in two ways, and where there is none.
use Rattle.std.proofs.Common.{◌≡◌, ℕ, zero, suc, ◌+◌, ◌<◌, Bool, true, false, cond, not, List, [], ◌∷◌, length, Some, refl, sym, ap, ◌∙◌, arith}
use Rattle.std.specs.Prelude.{nat_lt, slice_get, slice_set, count_by}
use Rattle.std.specs.List.{list_any}
use Rattle.std.proofs.lemmas.List.Sums.{sum_by-cons}
use Rattle.std.proofs.lemmas.Bool.{and_parts, and_from, lt-ltb, ltb-false, not-true}
use Rattle.mm_types.proofs.Booleans.{not_true}
use Rattle.mm_move_rules.specs.{is_lowest}
use Rattle.mm_move_laws.specs.{one_if, IsLowest}

pub lowest_free : (s : ℕ) (free : List Bool) → is_lowest s free ≡ true → slice_get free s ≡ Some true
lowest_free s [] e = cc
lowest_free zero (b ∷ free) e = ap (λ (x : Bool). Some x) e
lowest_free (suc s) (b ∷ free) e = lowest_free s free (and_parts (not b) (is_lowest s free) e).1

below_taken : (s : ℕ) (free : List Bool) → is_lowest s free ≡ true → (k : ℕ) → k < s → slice_get free k ≡ Some false
below_taken s [] e k l = cc
below_taken zero (b ∷ free) e k l = absurd (omega (arith, l))
below_taken (suc s) (b ∷ free) e zero l = ap (λ (x : Bool). Some x) (not-true b (and_parts (not b) (is_lowest s free) e).0)
below_taken (suc s) (b ∷ free) e (suc k) l = below_taken s free (and_parts (not b) (is_lowest s free) e).1 k (omega (arith, l))

pub lowest_is : (free : List Bool) (s : ℕ) → is_lowest s free ≡ true → IsLowest free s
lowest_is free s e = record { is_free = lowest_free s free e; below = below_taken s free e }

pub lowest_from : (free : List Bool) (s : ℕ) → slice_get free s ≡ Some true → ((k : ℕ) → k < s → slice_get free k ≡ Some false) → is_lowest s free ≡ true
lowest_from [] s e h = cc
lowest_from (b ∷ free) zero e h = let same : b ≡ true = cc in same
lowest_from (b ∷ free) (suc s) e h =
    let first : Some b ≡ Some false = h 0 (omega arith) in
    let taken : b ≡ false = cc in
    and_from (not b) (is_lowest s free) (ap not taken) (lowest_from free s e (λ k l. h (suc k) (omega (arith, l))))

pub lowest_one : (free : List Bool) (s t : ℕ) → is_lowest s free ≡ true → is_lowest t free ≡ true → s ≡ t
lowest_one (b ∷ free) zero (suc t) e g = let bad : not b ≡ true = (and_parts (not b) (is_lowest t free) g).0 in let no : false ≡ true = sym (ap not e) ∙ bad in cc
lowest_one (b ∷ free) (suc s) zero e g = let bad : not b ≡ true = (and_parts (not b) (is_lowest s free) e).0 in let no : false ≡ true = sym (ap not g) ∙ bad in cc
lowest_one (b ∷ free) (suc s) (suc t) e g = ap suc (lowest_one free s t (and_parts (not b) (is_lowest s free) e).1 (and_parts (not b) (is_lowest t free) g).1)
lowest_one _ _ _ e g = cc

-- where a slot is free there is a lowest
pub lowest_there : (free : List Bool) → list_any (λ b. b) free ≡ true → (t : ℕ) × (is_lowest t free ≡ true)
lowest_there [] e = cc
lowest_there (true ∷ free) e = (0, refl)
lowest_there (false ∷ free) e = let h = lowest_there free e in (suc h.0, h.1)

pub lowest_any : (t : ℕ) (free : List Bool) → is_lowest t free ≡ true → list_any (λ b. b) free ≡ true
lowest_any t [] e = cc
lowest_any (suc t) (false ∷ free) e = lowest_any t free e
lowest_any _ (_ ∷ free) e = cc

pub lowest_nowhere : (free : List Bool) → list_any (λ b. b) free ≡ false → (t : ℕ) → is_lowest t free ≡ false
lowest_nowhere free none t = not_true (is_lowest t free) (λ e. let bad : true ≡ false = sym (lowest_any t free e) ∙ none in cc)

pub free_counted : (free : List Bool) → nat_lt 0 (count_by (λ b. b) free) ≡ list_any (λ b. b) free
free_counted [] = refl
free_counted (true ∷ free) = let n = sum_by-cons (λ (b : Bool). cond b 1 0) true free in lt-ltb 0 (count_by (λ b. b) (true ∷ free)) (omega (arith, n))
free_counted (false ∷ free) = let n = sum_by-cons (λ (b : Bool). cond b 1 0) false free in ap (nat_lt 0) (omega (arith, n)) ∙ free_counted free

pub none_counted : (free : List Bool) → list_any (λ b. b) free ≡ false → count_by (λ b. b) free ≡ 0
none_counted free none = let h = ltb-false 0 (count_by (λ b. b) free) (free_counted free ∙ none) in omega (arith, h)

-- the lowest free slot is taken: one fewer is free
pub lowest_taken : (free : List Bool) (s : ℕ) → is_lowest s free ≡ true → count_by (λ b. b) (slice_set free s false) + 1 ≡ count_by (λ b. b) free
lowest_taken [] s e = cc
lowest_taken (b ∷ free) zero e =
    omega (arith, sum_by-cons (λ (x : Bool). cond x 1 0) false free, sum_by-cons (λ (x : Bool). cond x 1 0) b free, ap one_if e)
lowest_taken (b ∷ free) (suc s) e =
    let now = sum_by-cons (λ (x : Bool). cond x 1 0) b (slice_set free s false) in
    omega (arith, lowest_taken free s (and_parts (not b) (is_lowest s free) e).1, now, sum_by-cons (λ (x : Bool). cond x 1 0) b free)

-- free and taken slots are all slots
pub free_and_taken : (free : List Bool) → count_by (λ b. b) free + count_by not free ≡ length free
free_and_taken [] = refl
free_and_taken (true ∷ free) =
    omega (arith, free_and_taken free, sum_by-cons (λ (x : Bool). cond x 1 0) true free, sum_by-cons (λ (x : Bool). cond (not x) 1 0) true free)
free_and_taken (false ∷ free) =
    omega (arith, free_and_taken free, sum_by-cons (λ (x : Bool). cond x 1 0) false free, sum_by-cons (λ (x : Bool). cond (not x) 1 0) false free)
