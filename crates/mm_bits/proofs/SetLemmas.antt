-- Sets of numbers: the rows above stay right, and lead to the next number.
use Rattle.std.proofs.Common.{◌≡◌, ℕ, ◌+◌, ◌*◌, ◌/◌, ◌^◌, ◌<◌, ◌≤◌, Bool, true, false, List, [], ◌++◌, length, replicate, append-nil, get_or, sym, ap, ◌∙◌, inl, inr, arith}
use Rattle.std.specs.Prelude.{Result, OnOk, OnErr}
use Rattle.std.specs.declared.result.Result.TheVariants.{Ok, Err}
use Rattle.std.proofs.lemmas.Bool.{cases_lt, false_from_ne_true}
use Rattle.mm_bits.specs.{have_bit, is_filled, PutsBit, PutsBits, NoneFrom, NoneWithin, IsLowestFrom, word_end, AreSummed, Sums, IsBitSet}
use Rattle.mm_bits.proofs.RowLemmas.{put_same, filled_at, same_bits, same_filled, no_bits, none_filled, bit_within}

-- ---- one bit changes

sums_passed : (b : Bool) (lower lower' upper upper' : List ℕ) (i : ℕ) (passes : Bool) → Sums lower upper → PutsBit b lower lower' i passes → passes ≡ true → PutsBits b upper upper' (i / 64) → Sums lower' upper'
sums_passed b lower lower' upper upper' i passes is below yes_passed above w = above w ∙ put_same b (i / 64) w (have_bit upper) (is_filled lower) (is w) ∙ sym (below.passed yes_passed w)

sums_stayed : (b : Bool) (lower lower' upper : List ℕ) (i : ℕ) (passes : Bool) → Sums lower upper → PutsBit b lower lower' i passes → passes ≡ false → Sums lower' upper
sums_stayed b lower lower' upper i passes is below no_passed w = is w ∙ sym (below.stayed no_passed w)

-- a bit of the first row changes
module _ (b : Bool) (bits bits' words tops : List ℕ) (i : ℕ) (passes : Bool) (is : AreSummed bits words tops) (puts : PutsBit b bits bits' i passes) (kept : length bits' ≡ length bits) where
  pub summed_passed : (words' tops' : List ℕ) → passes ≡ true → PutsBits b words words' (i / 64) → Sums words' tops' → length words' ≡ length words → length tops' ≡ length tops → AreSummed bits' words' tops'
  summed_passed words' tops' yes_passed above sums words_kept tops_kept = record {
    bits_fit = omega (arith, kept, words_kept, is.bits_fit);
    words_fit = omega (arith, words_kept, tops_kept, is.words_fit);
    small = omega (arith, tops_kept, is.small);
    words_are = sums_passed b bits bits' words words' i passes is.words_are puts yes_passed above;
    tops_are = sums;
  }

  pub summed_stayed : passes ≡ false → AreSummed bits' words tops
  summed_stayed no_passed = record {
    bits_fit = omega (arith, kept, is.bits_fit);
    words_fit = is.words_fit;
    small = is.small;
    words_are = sums_stayed b bits bits' words i passes is.words_are puts no_passed;
    tops_are = is.tops_are;
  }

-- ---- words are added

-- zeros are added, or memory was refused
pub maybe_extended : {A E : Type 0} (r : Result A E) (old new : List ℕ) (n : ℕ) → OnOk r (new ≡ old ++ replicate n 0) → OnErr r (new ≡ old) → (k : ℕ) × (new ≡ old ++ replicate k 0) × (k ≤ n)
maybe_extended (Ok x) old new n ok err = (n, ok, omega arith)
maybe_extended (Err e) old new n ok err = (0, err ∙ sym (append-nil old), omega arith)

-- zeros are added to the rows
pub summed_more : (bits bits' words words' tops tops' : List ℕ) → AreSummed bits words tops → ((w : ℕ) → get_or bits' w 0 ≡ get_or bits w 0) → ((w : ℕ) → get_or words' w 0 ≡ get_or words w 0) → ((w : ℕ) → get_or tops' w 0 ≡ get_or tops w 0) →
    length bits' ≤ 64 * length words' → length words' ≤ 64 * length tops' → length tops' ≤ 2 ^ 14 → AreSummed bits' words' tops'
summed_more bits bits' words words' tops tops' is same same_words same_tops bits_fit words_fit small = record {
  bits_fit = bits_fit;
  words_fit = words_fit;
  small = small;
  words_are = λ w. same_bits words words' same_words w ∙ is.words_are w ∙ sym (same_filled bits bits' same w);
  tops_are = λ w. same_bits tops tops' same_tops w ∙ is.tops_are w ∙ sym (same_filled words words' same_words w);
}

pub no_rows : (capacity : ℕ) (bits words tops : List ℕ) → bits ≡ [] → words ≡ [] → tops ≡ [] → IsBitSet capacity bits words tops
no_rows capacity bits words tops no_bit no_word no_top =
    let few = ap length no_bit in
    let fewer = ap length no_word in
    record {
      summed = record {
        bits_fit = omega (arith, few);
        words_fit = omega (arith, fewer);
        small = omega (arith, ap length no_top);
        words_are = λ w. no_bits words no_word w ∙ sym (none_filled bits no_bit w);
        tops_are = λ w. no_bits tops no_top w ∙ sym (none_filled words no_word w);
      };
      room = omega (arith, fewer);
    }

-- ---- the next number, by the row above

module _ (lower upper : List ℕ) (from : ℕ) (sums : Sums lower upper) (none : NoneWithin (have_bit lower) from (word_end from)) where
  unset : (w : ℕ) → have_bit upper (w / 64) ≡ false → have_bit lower w ≡ false
  unset w empty = false_from_ne_true (have_bit lower w) (λ set. (let bad : true ≡ false = sym (filled_at lower w set) ∙ sym (sums (w / 64)) ∙ empty in cc))

  pub none_above : NoneFrom (have_bit upper) (from / 64 + 1) → NoneFrom (have_bit lower) from
  none_above empty w low = elim (cases_lt w (word_end from)) [
    | inl near ↦ none.inside w low near
    | inr far ↦ unset w (empty (w / 64) (omega (arith, far)))
  ]

  pub found_above : (word v : ℕ) → IsLowestFrom (have_bit upper) (from / 64 + 1) word → IsLowestFrom (have_bit lower) (64 * word) v → IsLowestFrom (have_bit lower) from v
  found_above word v above is = record {
    held = is.held;
    low = omega (arith, above.low, is.low);
    least = λ w set low. elim (cases_lt w (word_end from)) [
      | inl near ↦ (let bad : true ≡ false = sym set ∙ none.inside w low near in cc)
      | inr far ↦
          let there : have_bit upper (w / 64) ≡ true = sums (w / 64) ∙ filled_at lower w set in
          is.least w set (omega (arith, above.least (w / 64) there (omega (arith, far))))
    ];
  }

-- a number in the set is below the room, which is no more than all
module _ (capacity : ℕ) (bits words tops : List ℕ) (is : IsBitSet capacity bits words tops) where
  pub number_low : (i : ℕ) → have_bit bits i ≡ true → i < 4096 * length words
  number_low i held = omega (arith, is.summed.bits_fit, bit_within bits i held)

  pub room_fits : 4096 * length words ≤ 2 ^ 32
  room_fits = omega (arith, is.summed.words_fit, is.summed.small)
