-- The lowest free slot.
use Rattle.std.proofs.Common.{◌≡◌, ℕ, zero, suc, ◌+◌, ◌<◌, Bool, true, false, ◌&&◌, List, [], ◌∷◌, drop, refl, sym, ap, ◌∙◌, ◌≤◌, ◌-◌, arith}
use Rattle.std.specs.Prelude.{not, slice_index_or}
use Rattle.std.proofs.lemmas.Bool.{false≢true}
use Rattle.mm_move_rules.specs.{is_lowest}
use Rattle.mm_sentences.specs.{none_free}

swapped : (a b c : Bool) → (a && (b && c)) ≡ (b && (a && c))
swapped true b c = refl
swapped false true c = refl
swapped false false c = refl

pub lowest_by : (frees : List Bool) (s : ℕ) → (slice_index_or frees s false && none_free s frees) ≡ is_lowest s frees
lowest_by [] zero = refl
lowest_by [] (suc s) = refl
lowest_by (true ∷ rest) zero = refl
lowest_by (false ∷ rest) zero = refl
lowest_by (free ∷ rest) (suc s) =
    swapped (slice_index_or rest s false) (not free) (none_free s rest) ∙ ap (λ b. not free && b) (lowest_by rest s)

none_left : (s : ℕ) → none_free s [] ≡ true
none_left zero = refl
none_left (suc s) = refl

next_free : (frees : List Bool) (k r : ℕ) → slice_index_or frees k false ≡ false → none_free (suc r) (drop k frees) ≡ none_free r (drop (suc k) frees)
next_free [] zero r e = sym (none_left r)
next_free [] (suc k) r e = sym (none_left r)
next_free (free ∷ rest) zero r e = ap (λ b. not b && none_free r rest) e
next_free (free ∷ rest) (suc k) r e = next_free rest k r e

this_free : (frees : List Bool) (k r : ℕ) → slice_index_or frees k false ≡ true → none_free (suc r) (drop k frees) ≡ false
this_free [] zero r e = absurd (false≢true e)
this_free [] (suc k) r e = absurd (false≢true e)
this_free (free ∷ rest) zero r e = ap (λ b. not b && none_free r rest) e
this_free (free ∷ rest) (suc k) r e = this_free rest k r e

one_less : (k s : ℕ) → k < s → s - k ≡ suc (s - (k + 1))
one_less k s low = omega (arith, low)

one_on : (k : ℕ) → suc k ≡ k + 1
one_on k = omega arith

-- one slot more is not free
pub none_more : (frees : List Bool) (k s : ℕ) → k < s → slice_index_or frees k false ≡ false
    → none_free (s - k) (drop k frees) ≡ none_free (s - (k + 1)) (drop (k + 1) frees)
none_more frees k s low e = ap (λ n. none_free n (drop k frees)) (one_less k s low) ∙ next_free frees k (s - (k + 1)) e ∙ ap (λ n. none_free (s - (k + 1)) (drop n frees)) (one_on k)

pub one_free : (frees : List Bool) (k s : ℕ) → k < s → slice_index_or frees k false ≡ true → none_free (s - k) (drop k frees) ≡ false
one_free frees k s low e = ap (λ n. none_free n (drop k frees)) (one_less k s low) ∙ this_free frees k (s - (k + 1)) e

-- none is left
pub none_over : (frees : List Bool) (k s : ℕ) → s ≤ k → none_free (s - k) (drop k frees) ≡ true
none_over frees k s over = ap (λ n. none_free n (drop k frees)) (none_less k s over)
  where
    none_less : (k s : ℕ) → s ≤ k → s - k ≡ 0
    none_less k s over = omega (arith, over)

pub low_not : (frees : List Bool) (s : ℕ) → slice_index_or frees s false ≡ false → false ≡ is_lowest s frees
low_not frees s e = sym (ap (λ b. b && none_free s frees) e) ∙ lowest_by frees s

pub low_then : (frees : List Bool) (s : ℕ) → slice_index_or frees s false ≡ true → none_free s frees ≡ is_lowest s frees
low_then frees s e = sym (ap (λ b. b && none_free s frees) e) ∙ lowest_by frees s

pub ruleset lowest = (none_more, one_free, none_over)

pub ruleset low = (low_not, low_then)
