-- Flags as bits of words: some are set or cleared, and the next one that is set.
use Rattle.std.proofs.Common.{◌≡◌, ℕ, ◌+◌, ◌-◌, ◌<◌, ◌≤◌, Bool, false, List, length, get_or, sym, ap, ◌∙◌, inl, inr, arith, zero, suc, [], ◌∷◌, replicate, refl, drop, subst}
use Rattle.std.specs.Prelude.{map}
use Rattle.std.proofs.lemmas.List.{ext_get_or, length-replicate, get_or-replicate, drop_more}
use Rattle.std.proofs.lemmas.Bool.{cases_lt}
use Rattle.mm_bits.specs.{have_bit, Becomes, IsLowestFrom, NoneWithin}
use Rattle.mm_bits.proofs.{zero_bit}
use Rattle.mm_vad.specs.{word_flags, bit_flag, LieAmong}
use Rattle.std.proofs.lemmas.List.FromFn.{length-map-range_with_len, get_or-map-range_with_len}
use Rattle.mm_world.specs.{change_range, unwritten}
use Rattle.mm_types.specs.{page_of}

-- ---- the flags of words, as some bits change, and searches among them

pub length-flags : (words : List ℕ) (n : ℕ) → length (word_flags words n) ≡ n
unfolding word_flags
length-flags words n = length-map-range_with_len (have_bit words) 0 n

pub get_or-flags : (words : List ℕ) (n i : ℕ) → i < n → get_or (word_flags words n) i false ≡ have_bit words i
unfolding word_flags
get_or-flags words n i h = get_or-map-range_with_len (have_bit words) 0 n i i false h (omega arith)

pub flags_zero : (k n : ℕ) → word_flags (replicate k 0) n ≡ replicate n false
flags_zero k n =
    ext_get_or false (word_flags (replicate k 0) n) (replicate n false) (length-flags (replicate k 0) n ∙ sym (length-replicate n false))
    (λ i h.
    let inside : i < n = omega (arith, h, length-flags (replicate k 0) n) in
    get_or-flags (replicate k 0) n i inside ∙ zero_bit k i ∙ sym (get_or-replicate n i false false inside))

-- ---- a range of a list is all one flag

change_nil : (c : Bool → Bool) (first count : ℕ) → [] ≡ change_range c first count []
change_nil c zero zero = refl
change_nil c zero (suc count) = refl
change_nil c (suc first) zero = refl
change_nil c (suc first) (suc count) = refl

pub length-change : (c : Bool → Bool) (first count : ℕ) (xs : List Bool) → length (change_range c first count xs) ≡ length xs
length-change c first count [] = ap length (sym (change_nil c first count))
length-change c (suc first) count (x ∷ xs) = ap suc (length-change c first count xs)
length-change c zero (suc count) (x ∷ xs) = ap suc (length-change c 0 count xs)
length-change c zero zero (x ∷ xs) = refl

joined : (x y : Bool) (xs ys : List Bool) → x ≡ y → xs ≡ ys → x ∷ xs ≡ y ∷ ys
joined x y xs ys p q = ap (λ (h : Bool). h ∷ xs) p ∙ ap (λ (t : List Bool). y ∷ t) q

pub same_as_change : (b : Bool) (first count : ℕ) (xs ys : List Bool) → length ys ≡ length xs → ((i : ℕ) → i < length xs → first ≤ i → i < first + count → get_or ys i false ≡ b) → ((i : ℕ) → i < length xs → i < first → get_or ys i false ≡ get_or xs i false) → ((i : ℕ) → i < length xs → first + count ≤ i → get_or ys i false ≡ get_or xs i false) → ys ≡ change_range (λ _. b) first count xs
same_as_change b first count [] [] e inside below above = change_nil (λ _. b) first count
same_as_change b first count [] (y ∷ ys) e inside below above = absurd (omega arith)
same_as_change b first count (x ∷ xs) [] e inside below above = absurd (omega arith)
same_as_change b (suc first) count (x ∷ xs) (y ∷ ys) e inside below above =
    joined y x ys (change_range (λ _. b) first count xs) (below 0 (omega arith) (omega arith))
    (same_as_change b first count xs ys (omega arith)
    (λ i h low high. inside (suc i) (omega arith) (omega arith) (omega arith))
    (λ i h low. below (suc i) (omega arith) (omega arith))
    (λ i h high. above (suc i) (omega arith) (omega arith)))
same_as_change b zero (suc count) (x ∷ xs) (y ∷ ys) e inside below above =
    joined y b ys (change_range (λ _. b) 0 count xs) (inside 0 (omega arith) (omega arith) (omega arith))
    (same_as_change b 0 count xs ys (omega arith)
    (λ i h low high. inside (suc i) (omega arith) (omega arith) (omega arith))
    (λ i h low. absurd (omega arith))
    (λ i h high. above (suc i) (omega arith) (omega arith)))
same_as_change b zero zero (x ∷ xs) (y ∷ ys) e inside below above =
    joined y x ys (change_range (λ _. b) 0 0 xs) (above 0 (omega arith) (omega arith))
    (same_as_change b 0 0 xs ys (omega arith)
    (λ i h low high. absurd (omega arith))
    (λ i h low. absurd (omega arith))
    (λ i h high. above (suc i) (omega arith) (omega arith)))

-- some bits of the words are all like this: so are the flags
pub flags_become : (b : Bool) (words words' : List ℕ) (n first count end : ℕ) → end ≡ first + count → Becomes b (have_bit words) (have_bit words') first end → word_flags words' n ≡ change_range (λ _. b) first count (word_flags words n)
flags_become b words words' n first count end to c =
    same_as_change b first count (word_flags words n) (word_flags words' n) (length-flags words' n ∙ sym (length-flags words n))
    (λ i h low high. let inside : i < n = omega (arith, h, length-flags words n) in get_or-flags words' n i inside ∙ c.inside i low (omega arith))
    (λ i h low.
    let inside : i < n = omega (arith, h, length-flags words n) in
    get_or-flags words' n i inside ∙ c.below i low ∙ sym (get_or-flags words n i inside))
    (λ i h high.
    let inside : i < n = omega (arith, h, length-flags words n) in
    get_or-flags words' n i inside ∙ c.above i (omega arith) ∙ sym (get_or-flags words n i inside))

-- ---- what a search in the words finds is found in the flags

module _ (words : List ℕ) (n first : ℕ) where
  pub none_flagged : (end : ℕ) → end ≤ n → NoneWithin (have_bit words) first end → NoneWithin (bit_flag (word_flags words n)) first end
  none_flagged end h none = record { inside = λ i low high. get_or-flags words n i (omega arith) ∙ none.inside i low high }

  pub next_flagged : (i : ℕ) → i < n → IsLowestFrom (have_bit words) first i → IsLowestFrom (bit_flag (word_flags words n)) first i
  next_flagged i h next = record {
    held = get_or-flags words n i h ∙ next.held;
    low = next.low;
    least = λ w set low. elim (cases_lt w n) [
      | inl near ↦ next.least w (sym (get_or-flags words n w near) ∙ set) low
      | inr far ↦ omega (arith, h, far)
    ];
  }

-- ---- the flags of pages that are unwritten one after the other

-- so far the flags are these, and the later addresses are left
pub record Left (base : ℕ) (whole old flags : List Bool) (addresses : List ℕ) : Type 0 where
  pub left : unwritten base (map page_of addresses) flags ≡ whole
  pub among : LieAmong base (length old) addresses
  pub many : length flags ≡ length old

one_less : (base : ℕ) (whole old flags new : List Bool) (a : ℕ) (later : List ℕ) → Left base whole old flags (a ∷ later) → new ≡ change_range (λ was. false) (page_of a - base) 1 flags → Left base whole old new later
one_less base whole old flags new a later h e = record {
  left = ap (unwritten base (map page_of later)) e ∙ h.left;
  among = h.among.2;
  many = ap length e ∙ length-change (λ was. false) (page_of a - base) 1 flags ∙ h.many;
}

pub left_more : (base : ℕ) (whole old flags new : List Bool) (addresses : List ℕ) (i : ℕ) → i < length addresses → Left base whole old flags (drop i addresses) → new ≡ change_range (λ was. false) (page_of (get_or addresses i 0) - base) 1 flags → Left base whole old new (drop (i + 1) addresses)
left_more base whole old flags new addresses i inside h e =
    one_less base whole old flags new (get_or addresses i 0) (drop (i + 1) addresses)
    (subst (Left base whole old flags) (drop_more addresses i 0 inside) h) e
