-- The digits of a number, the last apart from those before it.
use Rattle.std.proofs.Common.{◌≡◌, ℕ, zero, suc, ◌+◌, ◌/◌, ◌%◌, ◌^◌, ◌≤◌, ◌<◌, Bool, cond, [], ◌∷◌, ◌++◌, refl, sym, ap, ◌∙◌, subst, inl, inr, arith, add-one, append_assoc, length-append}
use Rattle.std.proofs.lemmas.Bool.{lt-ltb, le-ltb, cases_lt}
use Rattle.std.proofs.lemmas.Nat.{div_below}
use Rattle.std.proofs.lemmas.Grind.{pow_more}
use Rattle.std.proofs.Math.Nat.{mod-eq_of_lt}
use Rattle.mm_types.specs.{Text, glyph, decimal, decimal_onto}

-- ---- one digit after another, the last first

abbrev either : Bool → Text → Text → Text
either b last more = cond b last more

pub step_last : (count n : ℕ) (rest : Text) → n < 10 → decimal_onto (suc count) n rest ≡ glyph (n % 10) ∷ rest
unfolding decimal_onto
step_last count n rest low = ap (λ b. either b (glyph (n % 10) ∷ rest) (decimal_onto count (n / 10) (glyph (n % 10) ∷ rest))) (lt-ltb n 10 low)

pub step_more : (count n : ℕ) (rest : Text) → 10 ≤ n → decimal_onto (suc count) n rest ≡ decimal_onto count (n / 10) (glyph (n % 10) ∷ rest)
unfolding decimal_onto
step_more count n rest high = ap (λ b. either b (glyph (n % 10) ∷ rest) (decimal_onto count (n / 10) (glyph (n % 10) ∷ rest))) (le-ltb n 10 high)

pub step_none : (n : ℕ) (rest : Text) → decimal_onto zero n rest ≡ rest
unfolding decimal_onto
step_none n rest = refl

pub below_power : (count n : ℕ) → n < 10 ^ suc count → n / 10 < 10 ^ count
below_power count n low = div_below n 10 (10 ^ count) (omega arith) (subst (λ (k : ℕ). n < k) (ap (λ (k : ℕ). 10 ^ k) (sym (add-one count)) ∙ pow_more 10 count) low)

-- the digits in front of a text are written as one text
pub onto_append : (count n : ℕ) (rest behind : Text) → decimal_onto count n rest ++ behind ≡ decimal_onto count n (rest ++ behind)
onto_append zero n rest behind = ap (λ t. t ++ behind) (step_none n rest) ∙ sym (step_none n (rest ++ behind))
onto_append (suc count) n rest behind = elim (cases_lt n 10) [
  | inl small ↦ ap (λ t. t ++ behind) (step_last count n rest small) ∙ sym (step_last count n (rest ++ behind) small)
  | inr large ↦
      ap (λ t. t ++ behind) (step_more count n rest large)
      ∙ onto_append count (n / 10) (glyph (n % 10) ∷ rest) behind
      ∙ sym (step_more count n (rest ++ behind) large)
]

-- ---- a number of few digits

-- a place more for digits than a number needs changes nothing
room_more : (count n : ℕ) (rest : Text) → n < 10 ^ suc count → decimal_onto (suc count) n rest ≡ decimal_onto (suc (suc count)) n rest
room_more zero n rest low = elim (cases_lt n 10) [
  | inl small ↦ step_last zero n rest small ∙ sym (step_last (suc zero) n rest small)
  | inr large ↦ absurd (omega (arith, low, large))
]
room_more (suc count) n rest low = elim (cases_lt n 10) [
  | inl small ↦ step_last (suc count) n rest small ∙ sym (step_last (suc (suc count)) n rest small)
  | inr large ↦
      step_more (suc count) n rest large
      ∙ room_more count (n / 10) (glyph (n % 10) ∷ rest) (below_power (suc count) n low)
      ∙ sym (step_more (suc (suc count)) n rest large)
]

pub decimal_one : (n : ℕ) → n < 10 → decimal n ≡ glyph n ∷ []
decimal_one n low = step_last 19 n [] low ∙ ap (λ d. glyph d ∷ []) (mod-eq_of_lt low)

pub decimal_more : (n : ℕ) → 10 ≤ n → n < 2 ^ 32 → decimal n ≡ decimal (n / 10) ++ glyph (n % 10) ∷ []
decimal_more n high low =
    step_more 19 n [] high
    ∙ room_more 18 (n / 10) (glyph (n % 10) ∷ []) (below_power 19 n (omega arith))
    ∙ sym (onto_append 20 (n / 10) [] (glyph (n % 10) ∷ []))

-- the last two
pub decimal_pair : (n : ℕ) → 100 ≤ n → n < 2 ^ 32 → decimal n ≡ decimal (n / 10 / 10) ++ glyph (n / 10 % 10) ∷ glyph (n % 10) ∷ []
decimal_pair n high low =
    let a = glyph (n % 10) ∷ [] in
    let b = glyph (n / 10 % 10) ∷ [] in
    decimal_more n (omega arith) low
    ∙ ap (λ t. t ++ a) (decimal_more (n / 10) (omega arith) (omega arith))
    ∙ append_assoc (decimal (n / 10 / 10)) b a

-- ---- the digits by pairs

abbrev pair : ℕ → Text
pair k = glyph (k / 10) ∷ glyph (k % 10) ∷ []

pub front_then_pair : (n : ℕ) (old : Text) → 100 ≤ n → n < 2 ^ 32 → (old ++ decimal (n / 100)) ++ glyph (n % 100 / 10) ∷ glyph (n % 100 % 10) ∷ [] ≡ old ++ decimal n
front_then_pair n old high low =
    let a : n / 100 ≡ n / 10 / 10 = omega arith in
    let b : n % 100 / 10 ≡ n / 10 % 10 = omega arith in
    let c : n % 100 % 10 ≡ n % 10 = omega arith in
    append_assoc old (decimal (n / 100)) (pair (n % 100))
    ∙ ap (λ t. old ++ t) (
    ap (λ x. decimal x ++ pair (n % 100)) a
    ∙ ap (λ x. decimal (n / 10 / 10) ++ glyph x ∷ glyph (n % 100 % 10) ∷ []) b
    ∙ ap (λ x. decimal (n / 10 / 10) ++ glyph (n / 10 % 10) ∷ glyph x ∷ []) c
    ∙ sym (decimal_pair n high low)
    )

-- the same, where the digits in front are told by another number
pub front_told : (n k : ℕ) (old : Text) → k ≡ n / 100 → 100 ≤ n → n < 2 ^ 32 → (old ++ decimal k) ++ glyph (n % 100 / 10) ∷ glyph (n % 100 % 10) ∷ [] ≡ old ++ decimal n
front_told n k old e high low = ap (λ (x : ℕ). (old ++ decimal x) ++ pair (n % 100)) e ∙ front_then_pair n old high low

-- two and three digits
pub decimal_two : (n : ℕ) → 10 ≤ n → n < 100 → decimal n ≡ glyph (n / 10) ∷ glyph (n % 10) ∷ []
decimal_two n high low =
    decimal_more n high (omega arith) ∙ ap (λ t. t ++ glyph (n % 10) ∷ []) (decimal_one (n / 10) (omega arith))

pub three_by_pair : (n : ℕ) → 100 ≤ n → n < 1000 → decimal n ≡ glyph (n / 100) ∷ glyph (n % 100 / 10) ∷ glyph (n % 100 % 10) ∷ []
three_by_pair n high low =
    sym (front_then_pair n [] high (omega arith)) ∙ ap (λ t. t ++ pair (n % 100)) (decimal_one (n / 100) (omega arith))

pub ruleset written = (front_then_pair, append_assoc, length-append)
