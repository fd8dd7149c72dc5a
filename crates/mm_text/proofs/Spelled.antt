-- What is written is read back; how long it is; that no space, no line feed and no carriage return stands in it.
use Rattle.std.proofs.Common.{◌≡◌, ℕ, zero, suc, ◌+◌, ◌-◌, ◌*◌, ◌/◌, ◌%◌, ◌^◌, ◌≤◌, ◌<◌, Bool, true, false, cond, ◌⊎◌, List, [], ◌∷◌, ◌++◌, length, Option, Some, None, refl, sym, ap, ◌∙◌, subst, inl, inr, arith, add-one, lit<, lit≤, length-append}
use Rattle.std.specs.Prelude.{nat_lt, nat_le, ◌==◌, ◌&&◌}
use Rattle.std.specs.Option.{option_and_then}
use Rattle.std.specs.List.{AllByRecursion}
use Rattle.std.proofs.lemmas.Bool.{and_right, lt-ltb, le-ltb, ltb-true, eqb-true, cases_lt, agree_below_at, cases_Bool, and_parts, le-leb}
use Rattle.std.proofs.lemmas.Nat.{div-add-mod', div_below, mod_below}
use Rattle.std.proofs.Math.Nat.{mod-eq_of_lt, pow-zero}
use Rattle.std.proofs.lemmas.Grind.{pow_more}
use Rattle.mm_types.specs.{Text, glyph, decimal, hex_onto, hex8, byte_pairs}
use Rattle.mm_text.specs.{digits_onto, hex_short, digit_value, value_in, are_digits, digits_in, hex_digits, below_limit, limited, number_of_form}
use Rattle.mm_text.specs.{number_of, pair_of, byte_before, pairs_of, few_bytes, bytes_of_pairs}
use Rattle.mm_text.proofs.Digits.{decimal_is}
use Rattle.mm_text.proofs.Values.{scan_is, scan_whole}

-- ---- a digit

pub digit_value-glyph : (d : ℕ) → d < 16 → digit_value (glyph d) ≡ d
digit_value-glyph d low = eqb-true (digit_value (glyph d)) d (agree_below_at (λ k. digit_value (glyph k) == k) (λ _. true) 16 d refl low)

-- a byte above the space, which is no space, no line feed and no carriage return
abbrev pub IsPlain : Text → Type 0
IsPlain text = AllByRecursion (λ c. 0x20 < c) text

glyph_plain : (d : ℕ) → d < 16 → 0x20 < glyph d
glyph_plain d low = ltb-true 0x20 (glyph d) (agree_below_at (λ k. nat_lt 0x20 (glyph k)) (λ _. true) 16 d refl low)

-- ---- the digits of a number in a base

pow-one : (b : ℕ) → b ^ 1 ≡ b
pow-one b = pow_more b 0 ∙ ap (λ (k : ℕ). k * b) (pow-zero b) ∙ omega arith

abbrev either : Bool → Text → Text → Text
either b last more = cond b last more

module _ (base : ℕ) (some : 2 ≤ base) (few : base ≤ 16) where
  digit_low : (n : ℕ) → n % base < base
  digit_low n = mod_below n base (omega arith)

  glyph_value : (n : ℕ) → digit_value (glyph (n % base)) ≡ n % base
  glyph_value n = digit_value-glyph (n % base) (omega (arith, digit_low n))

  step_last : (count n : ℕ) (rest : Text) → n < base → digits_onto base (suc count) n rest ≡ glyph (n % base) ∷ rest
  unfolding digits_onto
  step_last count n rest low = ap (λ b. either b (glyph (n % base) ∷ rest) (digits_onto base count (n / base) (glyph (n % base) ∷ rest))) (lt-ltb n base low)

  step_more : (count n : ℕ) (rest : Text) → base ≤ n → digits_onto base (suc count) n rest ≡ digits_onto base count (n / base) (glyph (n % base) ∷ rest)
  unfolding digits_onto
  step_more count n rest high = ap (λ b. either b (glyph (n % base) ∷ rest) (digits_onto base count (n / base) (glyph (n % base) ∷ rest))) (le-ltb n base high)

  step_none : (n : ℕ) (rest : Text) → digits_onto base zero n rest ≡ rest
  unfolding digits_onto
  step_none n rest = refl

  -- a fact of the digits by induction on how many there may be
  below_power : (count n : ℕ) → n < base ^ suc count → n / base < base ^ count
  below_power count n low = div_below n base (base ^ count) (omega arith) (subst (λ (k : ℕ). n < k) (ap (λ (k : ℕ). base ^ k) (sym (add-one count)) ∙ pow_more base count) low)

  pub value_in-digits : (count n : ℕ) (rest : Text) → n < base ^ count → value_in base 0 (digits_onto base count n rest) ≡ value_in base n rest
  value_in-digits zero n rest low = ap (value_in base 0) (step_none n rest) ∙ ap (λ (k : ℕ). value_in base k rest) (omega (arith, pow-zero base))
  value_in-digits (suc count) n rest low = elim (cases_lt n base) [
    | inl small ↦
        (let d : digit_value (glyph (n % base)) ≡ n = glyph_value n ∙ mod-eq_of_lt small in
        ap (value_in base 0) (step_last count n rest small) ∙ ap (λ (k : ℕ). value_in base k rest) (omega (arith, d)))
    | inr large ↦
        (let v : n / base * base + digit_value (glyph (n % base)) ≡ n = ap (λ (k : ℕ). n / base * base + k) (glyph_value n) ∙ div-add-mod' n base in
        ap (value_in base 0) (step_more count n rest large)
        ∙ value_in-digits count (n / base) (glyph (n % base) ∷ rest) (below_power count n low)
        ∙ ap (λ (k : ℕ). value_in base k rest) v)
  ]

  are_digits-more : (n : ℕ) (rest : Text) → are_digits base rest ≡ true → are_digits base (glyph (n % base) ∷ rest) ≡ true
  are_digits-more n rest e =
      ap (λ b. b && are_digits base rest) (lt-ltb (digit_value (glyph (n % base))) base (omega (arith, glyph_value n, digit_low n))) ∙ e

  pub are_digits-digits : (count n : ℕ) (rest : Text) → are_digits base rest ≡ true → are_digits base (digits_onto base count n rest) ≡ true
  are_digits-digits zero n rest e = ap (are_digits base) (step_none n rest) ∙ e
  are_digits-digits (suc count) n rest e = elim (cases_lt n base) [
    | inl small ↦ ap (are_digits base) (step_last count n rest small) ∙ are_digits-more n rest e
    | inr large ↦ ap (are_digits base) (step_more count n rest large) ∙ are_digits-digits count (n / base) (glyph (n % base) ∷ rest) (are_digits-more n rest e)
  ]

  pub plain-digits : (count n : ℕ) (rest : Text) → IsPlain rest → IsPlain (digits_onto base count n rest)
  plain-digits zero n rest p = subst IsPlain (sym (step_none n rest)) p
  plain-digits (suc count) n rest p =
      let q : IsPlain (glyph (n % base) ∷ rest) = (glyph_plain (n % base) (omega (arith, digit_low n)), p) in
      elim (cases_lt n base) [
        | inl small ↦ subst IsPlain (sym (step_last count n rest small)) q
        | inr large ↦ subst IsPlain (sym (step_more count n rest large)) (plain-digits count (n / base) (glyph (n % base) ∷ rest) q)
      ]

  pub length-digits-ge : (count n : ℕ) (rest : Text) → length rest ≤ length (digits_onto base count n rest)
  length-digits-ge zero n rest = omega (arith, ap length (step_none n rest))
  length-digits-ge (suc count) n rest = elim (cases_lt n base) [
    | inl small ↦ omega (arith, ap length (step_last count n rest small))
    | inr large ↦ omega (arith, ap length (step_more count n rest large), length-digits-ge count (n / base) (glyph (n % base) ∷ rest))
  ]

  pub length-digits-some : (count n : ℕ) (rest : Text) → 1 ≤ length (digits_onto base (suc count) n rest)
  length-digits-some count n rest = elim (cases_lt n base) [
    | inl small ↦ omega (arith, ap length (step_last count n rest small))
    | inr large ↦ omega (arith, ap length (step_more count n rest large), length-digits-ge count (n / base) (glyph (n % base) ∷ rest))
  ]

  longer : (count k n : ℕ) (rest : Text) → ((j : ℕ) (r : Text) → n / base < base ^ suc j → length (digits_onto base count (n / base) r) ≤ suc j + length r) → base ≤ n → n < base ^ suc k → length (digits_onto base count (n / base) (glyph (n % base) ∷ rest)) ≤ suc k + length rest
  longer count zero n rest ih high low = absurd (omega (arith, pow-one base))
  longer count (suc k) n rest ih high low = omega (arith, ih k (glyph (n % base) ∷ rest) (below_power (suc k) n low))

  -- of a number below base ^ k there are at most k, where k is not 0
  pub length-digits : (count k n : ℕ) (rest : Text) → n < base ^ suc k → length (digits_onto base count n rest) ≤ suc k + length rest
  length-digits zero k n rest low = omega (arith, ap length (step_none n rest))
  length-digits (suc count) k n rest low = elim (cases_lt n base) [
    | inl small ↦ omega (arith, ap length (step_last count n rest small))
    | inr large ↦ omega (arith, ap length (step_more count n rest large), longer count k n rest (λ j r l. length-digits count j (n / base) r l) large low)
  ]

-- ---- decimal numbers

decimal_digits : (n : ℕ) → decimal n ≡ digits_onto 10 20 n []
decimal_digits n = decimal_is 20 n []

pub length-decimal-some : (n : ℕ) → 1 ≤ length (decimal n)
length-decimal-some n = omega (arith, ap length (decimal_digits n), length-digits-some 10 (lit≤ tt) (lit≤ tt) 19 n [])

pub length-decimal : (n : ℕ) → n < 2 ^ 64 → length (decimal n) ≤ 20
length-decimal n low = omega (arith, ap length (decimal_digits n), length-digits 10 (lit≤ tt) (lit≤ tt) 20 19 n [] (omega arith))

pub length-decimal-32 : (n : ℕ) → n < 2 ^ 32 → length (decimal n) ≤ 10
length-decimal-32 n low = omega (arith, ap length (decimal_digits n), length-digits 10 (lit≤ tt) (lit≤ tt) 20 9 n [] (omega arith))

decimal_value : (n : ℕ) → n < 10 ^ 20 → value_in 10 0 (decimal n) ≡ n
decimal_value n low = ap (value_in 10 0) (decimal_digits n) ∙ value_in-digits 10 (lit≤ tt) (lit≤ tt) 20 n [] low

are_decimal : (n : ℕ) → are_digits 10 (decimal n) ≡ true
are_decimal n = ap (are_digits 10) (decimal_digits n) ∙ are_digits-digits 10 (lit≤ tt) (lit≤ tt) 20 n [] refl

-- decimal digits do not begin with `0x`
not_x : (b : ℕ) → nat_lt (digit_value b) 10 ≡ true → (b == 0x78) ≡ false
not_x b low = elim (cases_Bool (b == 0x78)) [
  | inl same ↦
      (let e : b ≡ 0x78 = eqb-true b 0x78 same in
      let bad : true ≡ false = sym low ∙ ap (λ (k : ℕ). nat_lt (digit_value k) 10) e in
      cc)
  | inr other ↦ other
]

pub no_hex : (cs : Text) → are_digits 10 cs ≡ true → hex_digits cs ≡ None
no_hex [] e = refl
no_hex (a ∷ []) e = refl
no_hex (a ∷ b ∷ cs) e =
    let later = (and_parts (nat_lt (digit_value a) 10) (are_digits 10 (b ∷ cs)) e).1 in
    let low = (and_parts (nat_lt (digit_value b) 10) (are_digits 10 cs) later).0 in
    ap (λ t. cond t (Some cs) None) (and_right (a == 0x30) (b == 0x78) (not_x b low))

-- digits of a base, in a length that is allowed, with a value below the limit
pub read_digits : (base most n : ℕ) (cs : Text) → 1 ≤ length cs → length cs ≤ most → are_digits base cs ≡ true → value_in base 0 cs ≡ n → n < 2 ^ 32 → limited (digits_in base most cs) ≡ Some n
read_digits base most n cs some few good value low =
    scan_whole base most cs some few ∙ scan_is base 0 cs
    ∙ ap (λ b. cond b (below_limit (value_in base 0 cs)) None) good
    ∙ ap below_limit value
    ∙ ap (λ b. cond b (Some n) None) (lt-ltb n (2 ^ 32) low)

pub number_of-decimal : (n : ℕ) → n < 2 ^ 32 → number_of (decimal n) ≡ Some n
number_of-decimal n low =
    ap (λ o. limited (number_of_form (decimal n) o)) (no_hex (decimal n) (are_decimal n))
    ∙ read_digits 10 10 n (decimal n) (length-decimal-some n) (length-decimal-32 n low) (are_decimal n) (decimal_value n (omega arith)) low

-- ---- hexadecimal numbers

pub number_of-hex_short : (n : ℕ) → n < 2 ^ 32 → number_of (hex_short n) ≡ Some n
number_of-hex_short n low =
    let cs : Text = digits_onto 16 8 n [] in
    read_digits 16 8 n cs (length-digits-some 16 (lit≤ tt) (lit≤ tt) 7 n []) (length-digits 16 (lit≤ tt) (lit≤ tt) 8 7 n [] (omega arith)) (are_digits-digits 16 (lit≤ tt) (lit≤ tt) 8 n [] refl) (value_in-digits 16 (lit≤ tt) (lit≤ tt) 8 n [] (omega arith)) low

pub length-hex_short : (n : ℕ) → n < 2 ^ 32 → length (hex_short n) ≤ 10
length-hex_short n low = omega (arith, length-digits 16 (lit≤ tt) (lit≤ tt) 8 7 n [] (omega arith))

pub length-hex_onto : (count n : ℕ) (rest : Text) → length (hex_onto count n rest) ≡ count + length rest
length-hex_onto zero n rest = omega arith
length-hex_onto (suc count) n rest = length-hex_onto count (n / 16) (glyph (n % 16) ∷ rest) ∙ omega arith

pub length-hex8 : (n : ℕ) → length (hex8 n) ≡ 10
length-hex8 n = omega (arith, length-hex_onto 8 n [])

-- ---- bytes

pub length-byte_pairs : (bs : List ℕ) → length (byte_pairs bs) ≡ 2 * length bs
length-byte_pairs [] = refl
length-byte_pairs (b ∷ bs) = omega (arith, length-byte_pairs bs)

pair_of-glyphs : (h l : ℕ) → h < 16 → l < 16 → pair_of (glyph h) (glyph l) ≡ Some (16 * h + l)
pair_of-glyphs h l p q =
    ap (λ (k : ℕ). pair_values k (digit_value (glyph l))) (digit_value-glyph h p)
    ∙ ap (λ (k : ℕ). pair_values h k) (digit_value-glyph l q)
    ∙ ap (λ b. cond b (Some (16 * h + l)) None) (ap (λ b. b && nat_lt l 16) (lt-ltb h 16 p) ∙ lt-ltb l 16 q)
  where
    pair_values : ℕ → ℕ → Option ℕ
    pair_values a b = cond (nat_lt a 16 && nat_lt b 16) (Some (16 * a + b)) None

pub pairs_of-byte_pairs : (bs : List ℕ) → AllByRecursion (λ b. b < 256) bs → pairs_of (byte_pairs bs) ≡ Some bs
pairs_of-byte_pairs [] low = refl
pairs_of-byte_pairs (b ∷ bs) low =
    let h : b / 16 % 16 < 16 = mod_below (b / 16) 16 (lit< tt) in
    let l : b % 16 < 16 = mod_below b 16 (lit< tt) in
    let small : b < 256 = low.0 in
    let whole : 16 * (b / 16 % 16) + b % 16 ≡ b = omega arith in
    ap (λ o. byte_before o (pairs_of (byte_pairs bs))) (pair_of-glyphs (b / 16 % 16) (b % 16) h l ∙ ap (λ (k : ℕ). Some k) whole)
    ∙ ap (byte_before (Some b)) (pairs_of-byte_pairs bs low.1)

pub bytes_of-byte_pairs : (bs : List ℕ) → 1 ≤ length bs → length bs ≤ 64 → AllByRecursion (λ b. b < 256) bs → bytes_of_pairs (byte_pairs bs) ≡ Some bs
bytes_of-byte_pairs bs some few low =
    ap (option_and_then few_bytes) (pairs_of-byte_pairs bs low)
    ∙ ap (λ t. cond t (Some bs) None) (ap (λ t. t && nat_le (length bs) 64) (le-leb 1 (length bs) some) ∙ le-leb (length bs) 64 few)

-- how long what is written is, for the room that the calls ask for
pub ruleset lengths = (length-append, length-decimal, length-decimal-32, length-hex8, length-hex_short, length-byte_pairs)
