-- Numbers that are read digit by digit.
use Rattle.std.proofs.Common.{◌≡◌, ℕ, zero, suc, ◌+◌, ◌-◌, ◌*◌, ◌/◌, ◌%◌, ◌^◌, ◌≤◌, ◌<◌, lit≤, Bool, true, false, cond, [], ◌∷◌, ◌++◌, Option, Some, None, refl, sym, ap, ◌∙◌, inl, inr, arith}
use Rattle.std.specs.Prelude.{nat_le}
use Rattle.std.proofs.lemmas.Bool.{lt-ltb, le-ltb, cases_lt, le-leb, and_from}
use Rattle.std.proofs.lemmas.Nat.{mod_below}
use Rattle.std.proofs.Math.Nat.{mod-eq_of_lt, pow-zero}
use Rattle.mm_types.specs.{Text, glyph, decimal, decimal_onto}
use Rattle.mm_log_writer.proofs.{step_last, step_more, step_none, below_power, onto_append}
use Rattle.mm_replay.specs.{is_digit, number_from, below, led_by, read_number}

abbrev pub next : Bool → (ℕ × Text) → (ℕ × Text) → ℕ × Text
next b more last = cond b more last

pub number_digit : (sum c : ℕ) (cs : Text) → 0x30 ≤ c → c ≤ 0x39 → number_from sum (c ∷ cs) ≡ number_from (10 * sum + (c - 0x30)) cs
number_digit sum c cs low high =
    ap (λ b. next b (number_from (10 * sum + (c - 0x30)) cs) (sum, c ∷ cs)) (and_from (nat_le 0x30 c) (nat_le c 0x39) (le-leb 0x30 c low) (le-leb c 0x39 high))

-- the sum never falls
grows_by : (b : Bool) (k : ℕ) (more last : ℕ × Text) → k ≤ more.0 → k ≤ last.0 → k ≤ (cond b more last).0
grows_by true k more last p q = p
grows_by false k more last p q = q

pub number_grows : (sum : ℕ) (cs : Text) → sum ≤ (number_from sum cs).0
number_grows sum [] = omega arith
number_grows sum (c ∷ cs) =
    grows_by (is_digit c) sum (number_from (10 * sum + (c - 0x30)) cs) (sum, c ∷ cs) (omega (arith, number_grows (10 * sum + (c - 0x30)) cs)) (omega arith)

abbrev pub short : Bool → ℕ × Text → Option (ℕ × Text)
short b p = cond b (Some p) None

pub number_past : (sum : ℕ) (cs : Text) → 2 ^ 32 ≤ sum → below (2 ^ 32) (number_from sum cs) ≡ None
number_past sum cs h = ap (λ b. short b (number_from sum cs)) (le-ltb (number_from sum cs).0 (2 ^ 32) (omega (arith, number_grows sum cs)))

pub number_within : (p : ℕ × Text) → p.0 < 2 ^ 32 → below (2 ^ 32) p ≡ Some p
number_within p h = ap (λ b. short b p) (lt-ltb p.0 (2 ^ 32) h)

pub ruleset numbers = (number_digit, number_past, number_within)

-- ---- what a number's spelling is read as

glyph_digit : (sum d : ℕ) (rest : Text) → d < 10 → number_from sum (glyph d ∷ rest) ≡ number_from (10 * sum + d) rest
glyph_digit sum d rest low =
    let g : glyph d ≡ 0x30 + d = ap (λ b. cond b (0x30 + d) (0x37 + d)) (lt-ltb d 10 low) in
    ap (λ c. number_from sum (c ∷ rest)) g
    ∙ number_digit sum (0x30 + d) rest (omega arith) (omega arith)
    ∙ ap (λ (k : ℕ). number_from k rest) (omega arith)

pub number_of-decimal_onto : (count n : ℕ) (rest : Text) → n < 10 ^ count → number_from 0 (decimal_onto count n rest) ≡ number_from n rest
number_of-decimal_onto zero n rest low = ap (number_from 0) (step_none n rest) ∙ ap (λ (k : ℕ). number_from k rest) (omega (arith, pow-zero 10))
number_of-decimal_onto (suc count) n rest low = elim (cases_lt n 10) [
  | inl small ↦
      (let d : n % 10 ≡ n = mod-eq_of_lt small in
      ap (number_from 0) (step_last count n rest small)
      ∙ glyph_digit 0 (n % 10) rest (omega (arith, mod_below n 10 (omega arith)))
      ∙ ap (λ (k : ℕ). number_from k rest) (omega (arith, d)))
  | inr large ↦
      ap (number_from 0) (step_more count n rest large)
      ∙ number_of-decimal_onto count (n / 10) (glyph (n % 10) ∷ rest) (below_power count n low)
      ∙ glyph_digit (n / 10) (n % 10) rest (omega (arith, mod_below n 10 (omega arith)))
      ∙ ap (λ (k : ℕ). number_from k rest) (omega arith)
]

-- no digit stands in front
abbrev pub ends_number : Text → Bool
ends_number [] = true
ends_number (c ∷ cs) = cond (is_digit c) false true

stop_at : (b : Bool) (more last : ℕ × Text) → cond b false true ≡ true → cond b more last ≡ last
stop_at true more last e = cc
stop_at false more last e = refl

number_stops : (n : ℕ) (behind : Text) → ends_number behind ≡ true → number_from n behind ≡ (n, behind)
number_stops n [] e = refl
number_stops n (c ∷ cs) e = stop_at (is_digit c) (number_from (10 * n + (c - 0x30)) cs) (n, c ∷ cs) e

-- ---- a number's first digit

pub glyph_is : (d : ℕ) → d < 10 → glyph d ≡ 0x30 + d
glyph_is d low = ap (λ b. cond b (0x30 + d) (0x37 + d)) (lt-ltb d 10 low)

-- the first digit is not zero but where the number is
front : (count n : ℕ) (rest : Text) → 0 < n → n < 10 ^ suc count → (d : ℕ) × (cs : Text) × (0 < d) × (d < 10) × (decimal_onto (suc count) n rest ≡ (0x30 + d) ∷ cs)
front zero n rest some low =
    let ten : 10 ^ suc zero ≡ 10 = refl in
    let small : n < 10 = omega (arith, ten, low) in
    (n, rest, some, small, step_last zero n rest small ∙ ap (λ c. c ∷ rest) (ap glyph (mod-eq_of_lt small) ∙ glyph_is n small))
front (suc count) n rest some low = elim (cases_lt n 10) [
  | inl small ↦ (n, rest, some, small, step_last (suc count) n rest small ∙ ap (λ c. c ∷ rest) (ap glyph (mod-eq_of_lt small) ∙ glyph_is n small))
  | inr large ↦
      (let up = front count (n / 10) (glyph (n % 10) ∷ rest) (omega (arith, large)) (below_power (suc count) n low) in
      (up.0, up.1, up.2, up.3, step_more (suc count) n rest large ∙ up.4))
]

abbrev pub led : Bool → Option (ℕ × Text) → Option (ℕ × Text)
led b found = cond b found None

abbrev pub led_more : Bool → Option (ℕ × Text) → ℕ → Text → Option (ℕ × Text)
led_more b more zero_is cs = cond b more (Some (zero_is, cs))

pub is_digit-true : (c : ℕ) → 0x30 ≤ c → c ≤ 0x39 → is_digit c ≡ true
is_digit-true c low high = and_from (nat_le 0x30 c) (nat_le c 0x39) (le-leb 0x30 c low) (le-leb c 0x39 high)

pub read_led : (c : ℕ) (cs : Text) → 0x30 < c → c ≤ 0x39 → read_number (c ∷ cs) ≡ below (2 ^ 32) (number_from (c - 0x30) cs)
read_led c cs low high =
    ap (λ b. led b (led_by c cs)) (is_digit-true c (omega arith) high)
    ∙ ap (λ b. led_more b (below (2 ^ 32) (number_from (c - 0x30) cs)) 0 cs) (lt-ltb 0x30 c low)

pub read_number-decimal : (n : ℕ) (behind : Text) → n < 2 ^ 32 → ends_number behind ≡ true → read_number (decimal n ++ behind) ≡ Some (n, behind)
read_number-decimal zero behind low ends = ap (λ t. read_number (t ++ behind)) (step_last 19 0 [] (lit≤ tt))
read_number-decimal (suc m) behind low ends =
    let n = suc m in
    let f = front 19 n [] (omega arith) (omega arith) in
    let text : decimal n ++ behind ≡ (0x30 + f.0) ∷ (f.1 ++ behind) = ap (λ t. t ++ behind) f.4 in
    let all : number_from 0 (decimal n ++ behind) ≡ (n, behind) =
    ap (number_from 0) (onto_append 20 n [] behind)
    ∙ number_of-decimal_onto 20 n behind (omega arith)
    ∙ number_stops n behind ends in
    let first : number_from ((0x30 + f.0) - 0x30) (f.1 ++ behind) ≡ number_from 0 ((0x30 + f.0) ∷ (f.1 ++ behind)) =
    ap (λ (k : ℕ). number_from k (f.1 ++ behind)) (omega arith) ∙ sym (number_digit 0 (0x30 + f.0) (f.1 ++ behind) (omega arith) (omega (arith, f.3))) in
    ap read_number text
    ∙ read_led (0x30 + f.0) (f.1 ++ behind) (omega (arith, f.2)) (omega (arith, f.3))
    ∙ ap (below (2 ^ 32)) (first ∙ ap (number_from 0) (sym text) ∙ all)
    ∙ number_within (n, behind) low
