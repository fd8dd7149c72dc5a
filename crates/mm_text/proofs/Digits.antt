-- Digits that are written from the last on, into the places of a list from its end on.
use Rattle.std.proofs.Common.{◌≡◌, ℕ, zero, suc, ◌+◌, ◌-◌, ◌/◌, ◌%◌, ◌≤◌, ◌<◌, Bool, cond, List, [], ◌∷◌, ◌++◌, length, drop, take, set, get_or, refl, sym, ap, ◌∙◌, subst, arith, add-one, append_assoc, append-nil, length-set, eq-zero-or-pos, ◌^◌, inl, inr}
use Rattle.std.specs.Prelude.{nat_lt}
use Rattle.std.specs.Fmt.{decimal as printed}
use Rattle.std.proofs.lemmas.List.{drop-set, drop_more, take_all, take_more_set, length-drop}
use Rattle.std.proofs.lemmas.Bool.{lt-ltb, le-ltb}
use Rattle.std.proofs.lemmas.Fmt.{decimal_digit, decimal_step}
use Rattle.mm_types.specs.{Text, glyph, decimal, decimal_onto, hex_onto, byte_pairs}
use Rattle.mm_text.specs.{digits_onto}

abbrev either : Bool → Text → Text → Text
either b last more = cond b last more

drop-set_suc : (j : ℕ) (xs : Text) (y : ℕ) → j < length xs → y ∷ drop (suc j) xs ≡ drop j (set xs j y)
drop-set_suc j xs y h = ap (λ k. y ∷ drop k xs) (sym (add-one j)) ∙ sym (drop-set xs j y h)

last_at : (base j n : ℕ) (xs : Text) → j < length xs → n < base → digits_onto base (suc j) n (drop (suc j) xs) ≡ drop j (set xs j (glyph (n % base)))
unfolding digits_onto
last_at base j n xs h low =
    let rest : Text = glyph (n % base) ∷ drop (suc j) xs in
    ap (λ b. either b rest (digits_onto base j (n / base) rest)) (lt-ltb n base low) ∙ drop-set_suc j xs (glyph (n % base)) h

more_at : (base j n : ℕ) (xs : Text) → j < length xs → base ≤ n → digits_onto base (suc j) n (drop (suc j) xs) ≡ digits_onto base j (n / base) (drop j (set xs j (glyph (n % base))))
unfolding digits_onto
more_at base j n xs h low =
    let rest : Text = glyph (n % base) ∷ drop (suc j) xs in
    ap (λ b. either b rest (digits_onto base j (n / base) rest)) (le-ltb n base low)
    ∙ ap (λ r. digits_onto base j (n / base) r) (drop-set_suc j xs (glyph (n % base)) h)

pub digits_last : (base k n : ℕ) (xs : Text) → 0 < k → k ≤ length xs → n < base → digits_onto base k n (drop k xs) ≡ drop (k - 1) (set xs (k - 1) (glyph (n % base)))
digits_last base k n xs some within low =
    let e : suc (k - 1) ≡ k = omega arith in
    subst (λ (i : ℕ). digits_onto base i n (drop i xs) ≡ drop (k - 1) (set xs (k - 1) (glyph (n % base)))) e (last_at base (k - 1) n xs (omega arith) low)

pub digits_more : (base k n : ℕ) (xs : Text) → 0 < k → k ≤ length xs → base ≤ n → digits_onto base k n (drop k xs) ≡ digits_onto base (k - 1) (n / base) (drop (k - 1) (set xs (k - 1) (glyph (n % base))))
digits_more base k n xs some within low =
    let e : suc (k - 1) ≡ k = omega arith in
    subst (λ (i : ℕ). digits_onto base i n (drop i xs) ≡ digits_onto base (k - 1) (n / base) (drop (k - 1) (set xs (k - 1) (glyph (n % base))))) e (more_at base (k - 1) n xs (omega arith) low)

pub digits_none : (base n : ℕ) (xs : Text) → digits_onto base 0 n xs ≡ xs
unfolding digits_onto
digits_none base n xs = refl

pub hex_more : (k n : ℕ) (xs : Text) → 0 < k → k ≤ length xs → hex_onto k n (drop k xs) ≡ hex_onto (k - 1) (n / 16) (drop (k - 1) (set xs (k - 1) (glyph (n % 16))))
hex_more k n xs some within =
    let e : suc (k - 1) ≡ k = omega arith in
    subst (λ (i : ℕ). hex_onto i n (drop i xs) ≡ hex_onto (k - 1) (n / 16) (drop (k - 1) (set xs (k - 1) (glyph (n % 16))))) e
    (ap (λ r. hex_onto (k - 1) (n / 16) r) (drop-set_suc (k - 1) xs (glyph (n % 16)) (omega arith)))

glyph_of : (d : ℕ) → d < 10 → 48 + d ≡ glyph d
glyph_of d low = sym (ap (λ (b : Bool). cond b (48 + d) (55 + d)) (lt-ltb d 10 low))

digit_glyph : (n : ℕ) → n < 10 → 48 + n ≡ glyph (n % 10)
digit_glyph n low = ap (λ d. 48 + d) (omega (arith, low)) ∙ glyph_of (n % 10) (omega arith)

several : (count n : ℕ) → 10 ≤ n → n < 10 ^ suc count → 0 < count
several zero n high few = omega (arith, high, few)
several (suc count) n high few = omega arith

-- decimal digits are digits in base 10
pub decimal_is : (count n : ℕ) (rest : Text) → decimal_onto count n rest ≡ digits_onto 10 count n rest
unfolding decimal_onto digits_onto
decimal_is zero n rest = refl
decimal_is (suc count) n rest =
    let last : Text = glyph (n % 10) ∷ rest in
    ap (λ more. either (nat_lt n 10) last more) (decimal_is count (n / 10) last)

-- one byte more in pairs
pub pair_put : (out : Text) (b : ℕ) (bs : List ℕ) → b < 256 → ((out ++ glyph (b / 16) ∷ []) ++ glyph (b % 16) ∷ []) ++ byte_pairs bs ≡ out ++ byte_pairs (b ∷ bs)
pair_put out b bs low =
    let high : b / 16 ≡ b / 16 % 16 = omega arith in
    append_assoc (out ++ glyph (b / 16) ∷ []) (glyph (b % 16) ∷ []) (byte_pairs bs)
    ∙ append_assoc out (glyph (b / 16) ∷ []) (glyph (b % 16) ∷ byte_pairs bs)
    ∙ ap (λ d. out ++ glyph d ∷ glyph (b % 16) ∷ byte_pairs bs) high

pub pairs_more : (out xs : List ℕ) (i : ℕ) → i < length xs → get_or xs i 0 < 256 → ((out ++ glyph (get_or xs i 0 / 16) ∷ []) ++ glyph (get_or xs i 0 % 16) ∷ []) ++ byte_pairs (drop (i + 1) xs) ≡ out ++ byte_pairs (drop i xs)
pairs_more out xs i h low =
    pair_put out (get_or xs i 0) (drop (i + 1) xs) low ∙ ap (λ r. out ++ byte_pairs r) (sym (drop_more xs i 0 h))

-- one pair more at the front of a room
pub pairs_filled : (room xs : List ℕ) (end i : ℕ) → i < length xs → get_or xs i 0 < 256 → end + 1 < length room → take (end + 2) (set (set room end (glyph (get_or xs i 0 / 16))) (end + 1) (glyph (get_or xs i 0 % 16))) ++ byte_pairs (drop (i + 1) xs) ≡ take end room ++ byte_pairs (drop i xs)
pairs_filled room xs end i h low fits =
    let high = glyph (get_or xs i 0 / 16) in
    let digit = glyph (get_or xs i 0 % 16) in
    let two : end + 2 ≡ (end + 1) + 1 = omega arith in
    let within : end + 1 < length (set room end high) = omega (arith, length-set room end high) in
    ap (λ k. take k (set (set room end high) (end + 1) digit) ++ byte_pairs (drop (i + 1) xs)) two
    ∙ ap (λ ys. ys ++ byte_pairs (drop (i + 1) xs)) (take_more_set (set room end high) (end + 1) digit within)
    ∙ ap (λ ys. (ys ++ digit ∷ []) ++ byte_pairs (drop (i + 1) xs)) (take_more_set room end high (omega arith))
    ∙ pairs_more (take end room) xs i h low

pub ruleset digits = (digits_last, digits_more, digits_none, hex_more, pairs_more, pairs_filled)

-- the decimal digits of a number are those that `{}` prints
printed_onto : (count n : ℕ) (rest : Text) → 0 < count → n < 10 ^ count → n < 2 ^ 64 → printed n ++ rest ≡ decimal_onto count n rest
unfolding decimal_onto
printed_onto zero n rest some few small = absurd (omega (arith, some))
printed_onto (suc count) n rest some few small =
    let last : Text = glyph (n % 10) ∷ rest in
    elim (eq-zero-or-pos (n / 10)) [
      | inl z ↦
          let low : n < 10 = omega (arith, z) in
          ap (λ ds. ds ++ rest) (decimal_digit n low) ∙ ap (λ d. d ∷ rest) (digit_glyph n low)
          ∙ sym (ap (λ b. either b last (decimal_onto count (n / 10) last)) (lt-ltb n 10 low))
      | inr more ↦
          let high : 10 ≤ n = omega (arith, more) in
          ap (λ ds. ds ++ rest) (decimal_step n high small) ∙ append_assoc (printed (n / 10)) ((48 + n % 10) ∷ []) rest
          ∙ ap (λ d. printed (n / 10) ++ d ∷ rest) (glyph_of (n % 10) (omega arith))
          ∙ printed_onto count (n / 10) last (several count n high few) (omega (arith, few)) (omega (arith, small))
          ∙ sym (ap (λ b. either b last (decimal_onto count (n / 10) last)) (le-ltb n 10 high))
    ]

pub printed_decimal : (n : ℕ) → n < 2 ^ 64 → printed n ≡ decimal n
printed_decimal n small = sym (append-nil (printed n)) ∙ printed_onto 20 n [] (omega arith) (omega (arith, small)) small
