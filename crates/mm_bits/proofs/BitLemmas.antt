-- Bits of words: masks, and some bits of one word that change.
use Rattle.std.proofs.Common.{◌≡◌, ◌≢◌, ℕ, zero, suc, ◌+◌, ◌-◌, ◌*◌, ◌/◌, ◌%◌, ◌^◌, ◌<◌, ◌≤◌, Bool, false, List, length, get_or, set, replicate, refl, sym, ap, ◌∙◌, inl, inr, arith, get_or-set_same, get_or-set_other}
use Rattle.std.specs.Prelude.{◌==◌, bit_or, bit_and, min}
use Rattle.std.specs.Int.{bit_at, w64}
use Rattle.std.proofs.lemmas.Nat.Bits.{bit_at_and, bit_at_or, bit_at_ones, bit_at_ones_above, bit_at_mask_inside, bit_at_mask_below, ones_shl, ones_shr, bit_at_not, bit_at-zero, bit_at-lt}
use Rattle.std.proofs.lemmas.List.{get_or_read}
use Rattle.std.proofs.lemmas.Bool.{cases_lt, cases_eq}
use Rattle.mm_bits.specs.{have_bit, Becomes, WordBecomes}

-- ---- masks

mask_bit : (low high i : ℕ) → low ≤ 64 → high ≤ 64 → bit_at (bit_and (18446744073709551615 * 2 ^ low % 18446744073709551616) (18446744073709551615 / 2 ^ (64 - high))) i ≡ min (bit_at (2 ^ 64 - 2 ^ low) i) (bit_at (2 ^ high - 1) i)
mask_bit low high i l h =
    let size : 64 - (64 - high) ≡ high = omega arith in
    let down : 18446744073709551615 / 2 ^ (64 - high) ≡ 2 ^ high - 1 = ones_shr 64 (64 - high) (omega arith) ∙ ap (λ (k : ℕ). 2 ^ k - 1) size in
    let up : 18446744073709551615 * 2 ^ low % 18446744073709551616 ≡ 2 ^ 64 - 2 ^ low = ones_shl 64 low l in
    bit_at_and (18446744073709551615 * 2 ^ low % 18446744073709551616) (18446744073709551615 / 2 ^ (64 - high)) i
    ∙ ap (λ (n : ℕ). min (bit_at n i) (bit_at (18446744073709551615 / 2 ^ (64 - high)) i)) up
    ∙ ap (λ (n : ℕ). min (bit_at (2 ^ 64 - 2 ^ low) i) (bit_at n i)) down

pub mask_inside : (low high i : ℕ) → high ≤ 64 → low ≤ i → i < high → bit_at (bit_and (18446744073709551615 * 2 ^ low % 18446744073709551616) (18446744073709551615 / 2 ^ (64 - high))) i ≡ 1
mask_inside low high i h l below =
    let upper = bit_at_mask_inside low 64 i l (omega arith) in
    let lower = bit_at_ones high i below in
    mask_bit low high i (omega arith) h ∙ omega (arith, upper, lower)

pub mask_below : (low high i : ℕ) → low ≤ 64 → high ≤ 64 → i < low → bit_at (bit_and (18446744073709551615 * 2 ^ low % 18446744073709551616) (18446744073709551615 / 2 ^ (64 - high))) i ≡ 0
mask_below low high i l h below =
    let upper = bit_at_mask_below low 64 i below in
    mask_bit low high i l h ∙ omega (arith, upper)

pub mask_above : (low high i : ℕ) → low ≤ 64 → high ≤ 64 → high ≤ i → bit_at (bit_and (18446744073709551615 * 2 ^ low % 18446744073709551616) (18446744073709551615 / 2 ^ (64 - high))) i ≡ 0
mask_above low high i l h above =
    let lower = bit_at_ones_above high i above in
    mask_bit low high i l h ∙ omega (arith, lower)

cleared_bit : (word mask i : ℕ) → mask < 2 ^ 64 → i < 64 → bit_at (bit_and word (18446744073709551615 - mask)) i ≡ min (bit_at word i) (1 - bit_at mask i)
cleared_bit word mask i fits h =
    bit_at_and word (18446744073709551615 - mask) i ∙ ap (λ (n : ℕ). min (bit_at word i) n) (bit_at_not w64 mask i fits h)

pub cleared_inside : (word mask i : ℕ) → mask < 2 ^ 64 → i < 64 → bit_at mask i ≡ 1 → bit_at (bit_and word (18446744073709551615 - mask)) i ≡ 0
cleared_inside word mask i fits h e = cleared_bit word mask i fits h ∙ omega (arith, e)

pub cleared_outside : (word mask i : ℕ) → mask < 2 ^ 64 → i < 64 → bit_at mask i ≡ 0 → bit_at (bit_and word (18446744073709551615 - mask)) i ≡ bit_at word i
cleared_outside word mask i fits h e = cleared_bit word mask i fits h ∙ omega (arith, e, bit_at-lt word i)

pub or_inside : (word mask i : ℕ) → bit_at mask i ≡ 1 → bit_at (bit_or word mask) i ≡ 1
or_inside word mask i e = bit_at_or word mask i ∙ omega (arith, e, bit_at-lt word i)

pub or_outside : (word mask i : ℕ) → bit_at mask i ≡ 0 → bit_at (bit_or word mask) i ≡ bit_at word i
or_outside word mask i e = bit_at_or word mask i ∙ omega (arith, e)

-- ---- some bits of one word change

pub at_bit : (a b : ℕ) → a ≡ b → (a == 1) ≡ (b == 1)
at_bit a b e = ap (λ (n : ℕ). n == 1) e

have_same : (words : List ℕ) (w x i : ℕ) → w < length words → i / 64 ≡ w → have_bit (set words w x) i ≡ (bit_at x (i % 64) == 1)
unfolding have_bit
have_same words w x i inside e =
    ap (λ (q : ℕ). bit_at (get_or (set words w x) q 0) (i % 64) == 1) e ∙ ap (λ (n : ℕ). bit_at n (i % 64) == 1) (get_or-set_same words w x 0 inside)

have_other : (words : List ℕ) (w x i : ℕ) → i / 64 ≢ w → have_bit (set words w x) i ≡ have_bit words i
unfolding have_bit
have_other words w x i d = ap (λ (n : ℕ). bit_at n (i % 64) == 1) (get_or-set_other words w (i / 64) x 0 d)

pub have_here : (words : List ℕ) (w i : ℕ) → i / 64 ≡ w → have_bit words i ≡ (bit_at (get_or words w 0) (i % 64) == 1)
unfolding have_bit
have_here words w i e = ap (λ (q : ℕ). bit_at (get_or words q 0) (i % 64) == 1) e

-- the bits from `first` on and below `end` stand in the word w, which becomes x
module _ (b : Bool) (words : List ℕ) (w word x low high first end : ℕ) (at : w < length words) (read : word ≡ get_or words w word) (c : WordBecomes b word x low high) (from : first ≡ 64 * w + low) (to : end ≡ 64 * w + high) (within : high ≤ 64) where
  kept : (i : ℕ) → i / 64 ≡ w → bit_at x (i % 64) ≡ bit_at word (i % 64) → have_bit (set words w x) i ≡ have_bit words i
  kept i here same =
      have_same words w x i at here
      ∙ at_bit (bit_at x (i % 64)) (bit_at (get_or words w 0) (i % 64)) (same ∙ ap (λ (n : ℕ). bit_at n (i % 64)) (get_or_read words w word at read 0))
      ∙ sym (have_here words w i here)

  pub word_becomes : Becomes b (have_bit words) (have_bit (set words w x)) first end
  word_becomes = record {
    inside = λ i l h.
        let here : i / 64 ≡ w = omega arith in
        have_same words w x i at here ∙ c.inside (i % 64) (omega arith) (omega arith);
    below = λ i h. elim (cases_eq (i / 64) w) [
      | inl here ↦ kept i here (c.below (i % 64) (omega arith))
      | inr d ↦ have_other words w x i d
    ];
    above = λ i h. elim (cases_eq (i / 64) w) [
      | inl here ↦ kept i here (c.above (i % 64) (omega arith) (omega arith))
      | inr d ↦ have_other words w x i d
    ];
  }

pub becomes_more : (b : Bool) (f g h : ℕ → Bool) (first at end : ℕ) → first ≤ at → at ≤ end → Becomes b f g first at → Becomes b g h at end → Becomes b f h first end
becomes_more b f g h first at end l m fg gh = record {
  inside = λ i from to. elim (cases_lt i at) [ inl low ↦ gh.below i low ∙ fg.inside i from low | inr high ↦ gh.inside i high to ];
  below = λ i low. gh.below i (omega arith) ∙ fg.below i low;
  above = λ i high. gh.above i high ∙ fg.above i (omega arith);
}

-- ---- words of zeros

zero_word : (k j : ℕ) → ◌≡◌ {A = ℕ} (get_or (replicate k 0) j 0) 0
zero_word zero j = refl
zero_word (suc k) zero = refl
zero_word (suc k) (suc j) = zero_word k j

pub zero_bit : (k i : ℕ) → have_bit (replicate k 0) i ≡ false
unfolding have_bit
zero_bit k i = ap (λ (n : ℕ). bit_at n (i % 64) == 1) (zero_word k (i / 64)) ∙ ap (λ (n : ℕ). n == 1) (bit_at-zero (i % 64))
