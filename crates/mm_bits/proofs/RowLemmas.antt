-- Rows of bits: one bit that changes, the next bit that is set, zeros that are added.
use Rattle.std.proofs.Common.{◌≡◌, ◌≢◌, ℕ, ◌+◌, ◌-◌, ◌*◌, ◌/◌, ◌%◌, ◌^◌, ◌<◌, ◌≤◌, Bool, true, false, cond, List, [], ◌++◌, length, get_or, set, replicate, refl, sym, ap, ◌∙◌, subst, inl, inr, arith, get_or-set_same, get_or-set_other}
use Rattle.std.specs.Prelude.{◌==◌, not, bit_or, bit_and}
use Rattle.std.specs.Int.{bit_at, bit_not, trailing_zeros, w64}
use Rattle.std.proofs.lemmas.Nat.{shr-shr, shr_le}
use Rattle.std.proofs.lemmas.Nat.Bits.{bit_at_set_same, bit_at_set_other, bit_at_clear_same, bit_at_clear_other, bit_at-trailing_zeros, bit_at-zero, bit_at_above, shr_and_one}
use Rattle.std.proofs.lemmas.List.{get_or_read, get_or_past, length-append, length-replicate, get_or_append_left, get_or-append_right, get_or-replicate}
use Rattle.std.proofs.lemmas.Bool.{cases_lt, cases_eq, eq-eqb, ne_eqb, eqb-true, eqb-false, false_from_ne_true}
use Rattle.mm_bits.specs.{have_bit, is_filled, put_at, Becomes, WordBecomes, PutsBit, NoneFrom, NoneWithin, IsLowestFrom, word_end}
use Rattle.mm_bits.proofs.BitLemmas.{at_bit, have_here, word_becomes}

-- ---- one bit changes

pub put_here : (b : Bool) (i k : ℕ) (has : ℕ → Bool) → k ≡ i → put_at b i has k ≡ b
put_here b i k has e = ap (λ t. cond t b (has k)) (eq-eqb k i e)

pub put_there : (b : Bool) (i k : ℕ) (has : ℕ → Bool) → k ≢ i → put_at b i has k ≡ has k
put_there b i k has d = ap (λ t. cond t b (has k)) (ne_eqb k i d)

pub put_same : (b : Bool) (i k : ℕ) (f g : ℕ → Bool) → f k ≡ g k → put_at b i f k ≡ put_at b i g k
put_same b i k f g e = ap (cond (k == i) b) e

becomes_put : (b : Bool) (i : ℕ) (f g : ℕ → Bool) → Becomes b f g i (i + 1) → (k : ℕ) → g k ≡ put_at b i f k
becomes_put b i f g becomes k = elim (cases_eq k i) [
  | inl here ↦ becomes.inside k (omega arith) (omega arith) ∙ sym (put_here b i k f here)
  | inr other ↦ elim (cases_lt k i) [
    | inl low ↦ becomes.below k low ∙ sym (put_there b i k f other)
    | inr high ↦ becomes.above k (omega (arith, high, other)) ∙ sym (put_there b i k f other)
  ]
]

filled_here : (words : List ℕ) (w x v : ℕ) → w < length words → v ≡ w → is_filled (set words w x) v ≡ not (x == 0)
unfolding is_filled
filled_here words w x v inside e = ap (λ (q : ℕ). not (get_or (set words w x) q 0 == 0)) e ∙ ap (λ (n : ℕ). not (n == 0)) (get_or-set_same words w x 0 inside)

filled_there : (words : List ℕ) (w x v : ℕ) → v ≢ w → is_filled (set words w x) v ≡ is_filled words v
unfolding is_filled
filled_there words w x v d = ap (λ (n : ℕ). not (n == 0)) (get_or-set_other words w v x 0 d)

filled_read : (words : List ℕ) (w word : ℕ) → w < length words → word ≡ get_or words w word → is_filled words w ≡ not (word == 0)
unfolding is_filled
filled_read words w word inside read = ap (λ (n : ℕ). not (n == 0)) (sym (get_or_read words w word inside read 0))

module _ (words : List ℕ) (i word x : ℕ) (inside : i / 64 < length words) (read : word ≡ get_or words (i / 64) word) where
  -- the word's own bit above is like this
  filled_like : (b : Bool) → not (x == 0) ≡ b → (w : ℕ) → is_filled (set words (i / 64) x) w ≡ put_at b (i / 64) (is_filled words) w
  filled_like b is w = elim (cases_eq w (i / 64)) [
    | inl here ↦ filled_here words (i / 64) x w inside here ∙ is ∙ sym (put_here b (i / 64) w (is_filled words) here)
    | inr other ↦ filled_there words (i / 64) x w other ∙ sym (put_there b (i / 64) w (is_filled words) other)
  ]

  filled_still : not (x == 0) ≡ not (word == 0) → (w : ℕ) → is_filled (set words (i / 64) x) w ≡ is_filled words w
  filled_still is w = elim (cases_eq w (i / 64)) [
    | inl here ↦ filled_here words (i / 64) x w inside here ∙ is ∙ sym (filled_read words (i / 64) word inside read) ∙ ap (is_filled words) (sym here)
    | inr other ↦ filled_there words (i / 64) x w other
  ]

  bits_put : (b : Bool) → WordBecomes b word x (i % 64) (i % 64 + 1) → (k : ℕ) → have_bit (set words (i / 64) x) k ≡ put_at b i (have_bit words) k
  bits_put b becomes = becomes_put b i (have_bit words) (have_bit (set words (i / 64) x)) (word_becomes b words (i / 64) word x (i % 64) (i % 64 + 1) i (i + 1) inside read becomes (omega arith) (omega arith) (omega arith))

set_one : (word i : ℕ) → i < 64 → WordBecomes true word (bit_or word (1 * 2 ^ i % 2 ^ 64)) i (i + 1)
set_one word i h = record {
  inside = λ k from to. let same : k ≡ i = omega arith in ap (λ (q : ℕ). bit_at (bit_or word (1 * 2 ^ i % 2 ^ 64)) q == 1) same ∙ at_bit _ 1 (bit_at_set_same w64 word i h);
  below = λ k low. bit_at_set_other w64 word i h k (λ e. omega arith);
  above = λ k high fits. bit_at_set_other w64 word i h k (λ e. omega arith);
}

clear_one : (word i : ℕ) → i < 64 → WordBecomes false word (bit_and word (bit_not w64 (1 * 2 ^ i % 2 ^ 64))) i (i + 1)
clear_one word i h = record {
  inside = λ k from to. let same : k ≡ i = omega arith in ap (λ (q : ℕ). bit_at (bit_and word (bit_not w64 (1 * 2 ^ i % 2 ^ 64))) q == 1) same ∙ at_bit _ 0 (bit_at_clear_same w64 word i h);
  below = λ k low. bit_at_clear_other w64 word i h k (omega arith) (λ e. omega arith);
  above = λ k high fits. bit_at_clear_other w64 word i h k fits (λ e. omega arith);
}

-- a word with a bit is not 0
not_zero : (x i : ℕ) → bit_at x i ≡ 1 → not (x == 0) ≡ true
not_zero x i one = elim (cases_eq x 0) [
  | inl none ↦ absurd (omega (arith, sym one ∙ ap (λ (n : ℕ). bit_at n i) none ∙ bit_at-zero i))
  | inr some ↦ ap not (ne_eqb x 0 some)
]

puts_one : (words : List ℕ) (i word : ℕ) → i / 64 < length words → word ≡ get_or words (i / 64) word → PutsBit true words (set words (i / 64) (bit_or word (1 * 2 ^ (i % 64) % 2 ^ 64))) i (word == 0)
puts_one words i word inside read =
    let x = bit_or word (1 * 2 ^ (i % 64) % 2 ^ 64) in
    let some : not (x == 0) ≡ true = not_zero x (i % 64) (bit_at_set_same w64 word (i % 64) (omega arith)) in
    record {
      bits = bits_put words i word x inside read true (set_one word (i % 64) (omega arith));
      passed = λ e. filled_like words i word x inside read true some;
      stayed = λ e. filled_still words i word x inside read (some ∙ sym (ap not e));
    }

clears_one : (words : List ℕ) (i word : ℕ) → i / 64 < length words → word ≡ get_or words (i / 64) word →
    PutsBit false words (set words (i / 64) (bit_and word (bit_not w64 (1 * 2 ^ (i % 64) % 2 ^ 64)))) i (bit_and word (bit_not w64 (1 * 2 ^ (i % 64) % 2 ^ 64)) == 0)
clears_one words i word inside read =
    let x = bit_and word (bit_not w64 (1 * 2 ^ (i % 64) % 2 ^ 64)) in
    record {
      bits = bits_put words i word x inside read false (clear_one word (i % 64) (omega arith));
      passed = λ e. filled_like words i word x inside read false (ap not e);
      stayed = λ e. filled_still words i word x inside read (elim (cases_eq word 0) [
        | inl none ↦ (let zero_now : x ≡ 0 = ap (λ (n : ℕ). bit_and n (bit_not w64 (1 * 2 ^ (i % 64) % 2 ^ 64))) none ∙ grind arith in absurd (eqb-false x 0 e zero_now))
        | inr some ↦ ap not e ∙ sym (ap not (ne_eqb word 0 some))
      ]);
    }

-- a bit is put that is known to be set, or clear
module _ (b : Bool) (words : List ℕ) (i word : ℕ) (inside : i / 64 < length words) (read : word ≡ get_or words (i / 64) word) where
  pub puts_set : b ≡ true → PutsBit b words (set words (i / 64) (bit_or word (1 * 2 ^ (i % 64) % 2 ^ 64))) i (word == 0)
  puts_set e = subst (λ (x : Bool). PutsBit x words (set words (i / 64) (bit_or word (1 * 2 ^ (i % 64) % 2 ^ 64))) i (word == 0)) (sym e) (puts_one words i word inside read)

  pub puts_clear : b ≡ false → PutsBit b words (set words (i / 64) (bit_and word (bit_not w64 (1 * 2 ^ (i % 64) % 2 ^ 64)))) i (bit_and word (bit_not w64 (1 * 2 ^ (i % 64) % 2 ^ 64)) == 0)
  puts_clear e =
      subst (λ (x : Bool). PutsBit x words (set words (i / 64) (bit_and word (bit_not w64 (1 * 2 ^ (i % 64) % 2 ^ 64)))) i (bit_and word (bit_not w64 (1 * 2 ^ (i % 64) % 2 ^ 64)) == 0)) (sym e)
      (clears_one words i word inside read)

-- ---- the next bit that is set

bit_here : (words : List ℕ) (from i word : ℕ) → word ≡ get_or words (from / 64) 0 → i / 64 ≡ from / 64 → from ≤ i → have_bit words i ≡ (bit_at (word / 2 ^ (from % 64)) (i - from) == 1)
bit_here words from i word read here low =
    let bit : from % 64 + (i - from) ≡ i % 64 = omega arith in
    have_here words (from / 64) i here
    ∙ sym (at_bit (bit_at (word / 2 ^ (from % 64)) (i - from)) (bit_at (get_or words (from / 64) 0) (i % 64))
    (ap (λ (n : ℕ). n % 2) (shr-shr word (from % 64) (i - from)) ∙ ap (λ (k : ℕ). bit_at word k) bit ∙ ap (λ (n : ℕ). bit_at n (i % 64)) read))

pub none_past : (words : List ℕ) (from : ℕ) → length words ≤ from / 64 → NoneFrom (have_bit words) from
none_past words from past i low =
    have_here words (i / 64) i refl
    ∙ at_bit (bit_at (get_or words (i / 64) 0) (i % 64)) 0 (ap (λ (n : ℕ). bit_at n (i % 64)) (get_or_past words (i / 64) 0 (omega (arith, past, low))) ∙ bit_at-zero (i % 64))

pub none_until : (words : List ℕ) (from : ℕ) → length words ≤ from / 64 → NoneWithin (have_bit words) from (word_end from)
none_until words from past = record { inside = λ i low high. none_past words from past i low }

module _ (words : List ℕ) (from word : ℕ) (read : word ≡ get_or words (from / 64) 0) where
  pub none_in_word : word / 2 ^ (from % 64) ≡ 0 → NoneWithin (have_bit words) from (word_end from)
  none_in_word e = record {
    inside = λ i low high.
        bit_here words from i word read (omega (arith, low, high)) low
        ∙ at_bit (bit_at (word / 2 ^ (from % 64)) (i - from)) 0 (ap (λ (n : ℕ). bit_at n (i - from)) e ∙ bit_at-zero (i - from));
  }

  module _ (fits : word < 2 ^ 64) (some : word / 2 ^ (from % 64) ≢ 0) where
    rest_fits : word / 2 ^ (from % 64) < 2 ^ 64
    rest_fits = omega (arith, shr_le word (from % 64))

    low_bit : (trailing_zeros w64 (word / 2 ^ (from % 64)) < 64) × (bit_at (word / 2 ^ (from % 64)) (trailing_zeros w64 (word / 2 ^ (from % 64))) ≡ 1) × ((i : ℕ) → i < trailing_zeros w64 (word / 2 ^ (from % 64)) → bit_at (word / 2 ^ (from % 64)) i ≡ 0)
    low_bit = bit_at-trailing_zeros w64 (word / 2 ^ (from % 64)) (omega (arith, some)) rest_fits

    module _ (t : ℕ) (is : t ≡ trailing_zeros w64 (word / 2 ^ (from % 64))) where
      bit_there : bit_at word (from % 64 + t) ≡ 1
      bit_there = ap (λ (n : ℕ). n % 2) (sym (shr-shr word (from % 64) t)) ∙ ap (λ (k : ℕ). bit_at (word / 2 ^ (from % 64)) k) is ∙ low_bit.1

      in_word : from % 64 + t < 64
      in_word = elim (cases_lt (from % 64 + t) 64) [
        | inl low ↦ low
        | inr high ↦ (let none = bit_at_above word 64 (from % 64 + t) fits high in absurd (omega (arith, none, bit_there)))
      ]

      pub found_in_word : IsLowestFrom (have_bit words) from (from + t)
      found_in_word = record {
        held =
            let word_of : (from + t) / 64 ≡ from / 64 = omega (arith, in_word) in
            let past : from + t - from ≡ t = omega arith in
            bit_here words from (from + t) word read word_of (omega arith)
            ∙ at_bit (bit_at (word / 2 ^ (from % 64)) (from + t - from)) 1 (ap (λ (k : ℕ). bit_at (word / 2 ^ (from % 64)) k) (past ∙ is) ∙ low_bit.1);
        low = omega arith;
        least = λ i set low. elim (cases_lt i (from + t)) [
          | inl before ↦
              let word_of : i / 64 ≡ from / 64 = omega (arith, in_word, low, before) in
              let unset : have_bit words i ≡ false = bit_here words from i word read word_of low ∙ at_bit (bit_at (word / 2 ^ (from % 64)) (i - from)) 0 (low_bit.2 (i - from) (omega (arith, low, before, is))) in
              let bad : true ≡ false = sym set ∙ unset in
              cc
          | inr behind ↦ behind
        ];
      }

-- ---- words that are not 0

pub filled_within : (words : List ℕ) (w : ℕ) → is_filled words w ≡ true → w < length words
unfolding is_filled
filled_within words w filled = elim (cases_lt w (length words)) [
  | inl near ↦ near
  | inr far ↦
      let none : not (get_or words w 0 == 0) ≡ false = ap not (eq-eqb (get_or words w 0) 0 (get_or_past words w 0 far)) in
      let bad : true ≡ false = sym filled ∙ none in
      cc
]

filled_some : (words : List ℕ) (w : ℕ) → is_filled words w ≡ true → get_or words w 0 ≢ 0
unfolding is_filled
filled_some words w filled none =
    let zero_word : not (get_or words w 0 == 0) ≡ false = ap not (eq-eqb (get_or words w 0) 0 none) in
    let bad : true ≡ false = sym filled ∙ zero_word in
    cc

pub lowest_of : (words : List ℕ) (w word t : ℕ) → is_filled words w ≡ true → word ≡ get_or words w 0 → word < 2 ^ 64 → t ≡ trailing_zeros w64 word → IsLowestFrom (have_bit words) (64 * w) (64 * w + t)
lowest_of words w word t filled read fits is =
    let whole : word / 2 ^ (64 * w % 64) ≡ word = (let start : 64 * w % 64 ≡ 0 = omega arith in ap (λ (k : ℕ). word / 2 ^ k) start ∙ omega arith) in
    let here : 64 * w / 64 ≡ w = omega arith in
    found_in_word words (64 * w) word (read ∙ ap (λ (k : ℕ). get_or words k 0) (sym here)) fits
    (λ none. filled_some words w filled (sym read ∙ sym whole ∙ none)) t (is ∙ ap (trailing_zeros w64) (sym whole))

-- a word with a bit is not 0
pub filled_at : (words : List ℕ) (i : ℕ) → have_bit words i ≡ true → is_filled words (i / 64) ≡ true
unfolding is_filled
filled_at words i set =
    not_zero (get_or words (i / 64) 0) (i % 64) (eqb-true (bit_at (get_or words (i / 64) 0) (i % 64)) 1 (sym (have_here words (i / 64) i refl) ∙ set))

pub bit_within : (words : List ℕ) (i : ℕ) → have_bit words i ≡ true → i / 64 < length words
bit_within words i set = filled_within words (i / 64) (filled_at words i set)

-- ---- the next bit of several words

pub none_more : (has : ℕ → Bool) (first at end : ℕ) → NoneWithin has first at → NoneWithin has at end → NoneWithin has first end
none_more has first at end a b = record {
  inside = λ i low high. elim (cases_lt i at) [ inl before ↦ a.inside i low before | inr later ↦ b.inside i later high ];
}

-- up to the end of a word
pub none_to_end : (has : ℕ → Bool) (from : ℕ) → NoneWithin has from (word_end from) → NoneWithin has from (64 * (from / 64 + 1))
none_to_end has from none = record { inside = λ i low high. none.inside i low (omega (arith, high)) }

-- one word more, which is 0
pub none_in_zero : (words : List ℕ) (from w : ℕ) → get_or words w 0 ≡ 0 → NoneWithin (have_bit words) from (64 * w) → NoneWithin (have_bit words) from (64 * (w + 1))
none_in_zero words from w zero_word none = record {
  inside = λ i low high. elim (cases_lt i (64 * w)) [
    | inl near ↦ none.inside i low near
    | inr far ↦ have_here words w i (omega (arith, far, high)) ∙ at_bit (bit_at (get_or words w 0) (i % 64)) 0 (ap (λ (n : ℕ). bit_at n (i % 64)) zero_word ∙ bit_at-zero (i % 64))
  ];
}

pub filled_read_some : (words : List ℕ) (w word : ℕ) → w < length words → word ≡ get_or words w word → word ≢ 0 → is_filled words w ≡ true
filled_read_some words w word inside read some = filled_read words w word inside read ∙ ap not (ne_eqb word 0 some)

-- what is lowest behind an end, where none is before it
pub lowest_behind : (has : ℕ → Bool) (from end v : ℕ) → from ≤ end → NoneWithin has from end → IsLowestFrom has end v → IsLowestFrom has from v
lowest_behind has from end v le none is = record {
  held = is.held;
  low = omega (arith, le, is.low);
  least = λ w set low. elim (cases_lt w end) [
    | inl near ↦ (let bad : true ≡ false = sym set ∙ none.inside w low near in cc)
    | inr far ↦ is.least w set far
  ];
}

-- none is below the lowest
pub none_before : (has : ℕ → Bool) (from v : ℕ) → IsLowestFrom has from v → NoneWithin has from v
none_before has from v is = record {
  inside = λ i low high. false_from_ne_true (has i) (λ set. omega (arith, high, is.least i set low));
}

pub none_next : (has : ℕ → Bool) (from : ℕ) → NoneFrom has from → (w : ℕ) → has w ≡ true → from ≤ w → ⊥
none_next has from none w set low = let bad : true ≡ false = sym set ∙ none w low in cc

-- in words of which none is behind `end`
pub none_behind : (words : List ℕ) (from end : ℕ) → length words ≤ end / 64 → NoneWithin (have_bit words) from end → NoneFrom (have_bit words) from
none_behind words from end past none w low = elim (cases_lt w end) [
  | inl near ↦ none.inside w low near
  | inr far ↦ none_past words end past w far
]

-- ---- bits that are read

pub read_bit : (words : List ℕ) (i word : ℕ) → i / 64 < length words → word ≡ get_or words (i / 64) word → (bit_and (word / 2 ^ (i % 64)) 1 == 1) ≡ have_bit words i
read_bit words i word inside read =
    at_bit (bit_and (word / 2 ^ (i % 64)) 1) (bit_at (get_or words (i / 64) 0) (i % 64)) (shr_and_one word (i % 64) ∙ ap (λ (n : ℕ). bit_at n (i % 64)) (get_or_read words (i / 64) word inside read 0))
    ∙ sym (have_here words (i / 64) i refl)

-- a range of one bit
pub puts_become : (b : Bool) (i : ℕ) (f g : ℕ → Bool) → ((k : ℕ) → g k ≡ put_at b i f k) → Becomes b f g i (i + 1)
puts_become b i f g puts = record {
  inside = λ k low high. puts k ∙ put_here b i k f (omega (arith, low, high));
  below = λ k low. puts k ∙ put_there b i k f (λ e. omega (arith, e, low));
  above = λ k high. puts k ∙ put_there b i k f (λ e. omega (arith, e, high));
}

-- ---- zeros are added

-- zeros at the end change no word
pub extended : (words : List ℕ) (n w : ℕ) → get_or (words ++ replicate n 0) w 0 ≡ get_or words w 0
extended words n w = elim (cases_lt w (length words)) [
  | inl near ↦ get_or_append_left words (replicate n 0) 0 w near
  | inr far ↦
      get_or-append_right words (replicate n 0) (length words) w 0 refl far ∙ (elim (cases_lt (w - length words) n) [
        | inl inside ↦ get_or-replicate n (w - length words) 0 0 inside
        | inr past ↦ get_or_past (replicate n 0) (w - length words) 0 (omega (arith, past, length-replicate {A = ℕ} n 0))
      ]) ∙ sym (get_or_past words w 0 far)
]

pub length-extended : (words : List ℕ) (n : ℕ) → length (words ++ replicate n 0) ≡ length words + n
length-extended words n = length-append words (replicate n 0) ∙ ap (λ (k : ℕ). length words + k) (length-replicate {A = ℕ} n 0)

-- words that read the same have the same bits
pub same_bits : (old new : List ℕ) → ((w : ℕ) → get_or new w 0 ≡ get_or old w 0) → (i : ℕ) → have_bit new i ≡ have_bit old i
unfolding have_bit
same_bits old new same i = ap (λ (n : ℕ). bit_at n (i % 64) == 1) (same (i / 64))

pub same_filled : (old new : List ℕ) → ((w : ℕ) → get_or new w 0 ≡ get_or old w 0) → (w : ℕ) → is_filled new w ≡ is_filled old w
unfolding is_filled
same_filled old new same w = ap (λ (n : ℕ). not (n == 0)) (same w)

-- no words: no bits
pub no_bits : (words : List ℕ) → words ≡ [] → (i : ℕ) → have_bit words i ≡ false
no_bits words none i = none_past words 0 (omega (arith, ap length none)) i (omega arith)

pub none_filled : (words : List ℕ) → words ≡ [] → (w : ℕ) → is_filled words w ≡ false
unfolding is_filled
none_filled words none w = ap (λ (n : ℕ). not (n == 0)) (get_or_past words w 0 (omega (arith, ap length none)))
