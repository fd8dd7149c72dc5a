-- The digits of a number from the first on: those of its tenth, and the last.
use Rattle.std.proofs.Common.{◌≡◌, ℕ, zero, suc, ◌+◌, ◌/◌, ◌%◌, ◌^◌, ◌≤◌, ◌<◌, cond, [], ◌∷◌, ◌++◌, refl, sym, ap, ◌∙◌, inl, inr, arith, append_assoc}
use Rattle.std.proofs.lemmas.Bool.{lt-ltb, cases_lt}
use Rattle.std.proofs.Math.Nat.{mod-eq_of_lt}
use Rattle.mm_types.specs.{Text, glyph, decimal, decimal_onto}
use Rattle.mm_sentences.specs.{two_digits, three_digits}
use Rattle.mm_log_writer.proofs.{step_last, step_more, below_power, onto_append}

-- room for one digit more changes nothing
one_more : (k n : ℕ) (rest : Text) → n < 10 ^ suc k
    → decimal_onto (suc (suc k)) n rest ≡ decimal_onto (suc k) n rest
one_more zero n rest low =
    let small : n < 10 = omega (arith, low) in
    step_last 1 n rest small ∙ sym (step_last 0 n rest small)
one_more (suc k) n rest low = elim (cases_lt n 10) [
  | inl small ↦ step_last (suc (suc k)) n rest small ∙ sym (step_last (suc k) n rest small)
  | inr large ↦
      step_more (suc (suc k)) n rest large
      ∙ one_more k (n / 10) (glyph (n % 10) ∷ rest) (below_power (suc k) n low)
      ∙ sym (step_more (suc k) n rest large)
]

decimal_more : (n : ℕ) → 10 ≤ n → n < 2 ^ 64
    → decimal n ≡ decimal (n / 10) ++ glyph (n % 10) ∷ []
decimal_more n large few =
    let last : Text = glyph (n % 10) ∷ [] in
    let low : n / 10 < 10 ^ 19 = omega (arith, few) in
    step_more 19 n [] large ∙ sym (one_more 18 (n / 10) last low)
    ∙ sym (onto_append 20 (n / 10) [] last)

pub digit_low : (d : ℕ) → d < 10 → glyph d ≡ 0x30 + d
digit_low d low = ap (λ b. cond b (0x30 + d) (0x37 + d)) (lt-ltb d 10 low)

pub number_digit : (n : ℕ) → n < 10 → decimal n ≡ glyph n ∷ []
number_digit n low =
    step_last 19 n [] low ∙ ap (λ (d : ℕ). glyph d ∷ []) (mod-eq_of_lt low)

pub number_more : (text front whole : Text) (n : ℕ) → 10 ≤ n → n < 2 ^ 64
    → front ≡ text ++ decimal (n / 10) → whole ≡ front ++ glyph (n % 10) ∷ []
    → whole ≡ text ++ decimal n
number_more text front whole n large few e f =
    f ∙ ap (λ t. t ++ glyph (n % 10) ∷ []) e
    ∙ append_assoc text (decimal (n / 10)) (glyph (n % 10) ∷ [])
    ∙ ap (λ t. text ++ t) (sym (decimal_more n large few))

pub number_of_two : (text front whole : Text) (n : ℕ) → 10 ≤ n → n < 100
    → front ≡ text ++ glyph (n / 10) ∷ [] → whole ≡ front ++ glyph (n % 10) ∷ []
    → whole ≡ text ++ decimal n
number_of_two text front whole n large few e f =
    number_more text front whole n large (omega (arith, few))
    (e ∙ ap (λ t. text ++ t) (sym (number_digit (n / 10) (omega (arith, few))))) f

pub number_below_100 : (text whole : Text) (n : ℕ) → 10 ≤ n → n < 100
    → whole ≡ text ++ two_digits n → whole ≡ text ++ decimal n
number_below_100 text whole n large few e =
    number_of_two text (text ++ glyph (n / 10) ∷ []) whole n large few refl
    (e ∙ sym (append_assoc text (glyph (n / 10) ∷ []) (glyph (n % 10) ∷ [])))

pub number_below_1000 : (text whole : Text) (n : ℕ) → 100 ≤ n → n < 1000
    → whole ≡ text ++ three_digits n → whole ≡ text ++ decimal n
number_below_1000 text whole n large few e =
    let front : Text = text ++ glyph (n / 100) ∷ glyph (n / 10 % 10) ∷ [] in
    let tens : n / 10 / 10 ≡ n / 100 = omega arith in
    number_more text front whole n (omega (arith, large)) (omega (arith, few))
    (number_below_100 text front (n / 10) (omega (arith, large)) (omega (arith, few))
    (ap (λ (d : ℕ). text ++ glyph d ∷ glyph (n / 10 % 10) ∷ []) (sym tens)))
    (e ∙ sym (append_assoc text (glyph (n / 100) ∷ glyph (n / 10 % 10) ∷ []) (glyph (n % 10) ∷ [])))

-- three digits more, written one behind another
pub number_and_three : (text front whole : Text) (n : ℕ) → 1000 ≤ n → n < 2 ^ 64
    → front ≡ text ++ decimal (n / 1000) → whole ≡ front ++ three_digits (n % 1000)
    → whole ≡ text ++ decimal n
number_and_three text front whole n large few e f =
    let a : ℕ = n % 1000 / 100 in
    let b : ℕ = n % 1000 / 10 % 10 in
    let c : ℕ = n % 1000 % 10 in
    let one : Text = front ++ glyph a ∷ [] in
    let two : Text = one ++ glyph b ∷ [] in
    let hundreds : n / 10 / 10 / 10 ≡ n / 1000 = omega arith in
    let is_a : n / 10 / 10 % 10 ≡ a = omega arith in
    let is_b : n / 10 % 10 ≡ b = omega arith in
    let is_c : n % 10 ≡ c = omega arith in
    number_more text two whole n (omega (arith, large)) few
    (number_more text one two (n / 10) (omega (arith, large)) (omega (arith, few))
    (number_more text front one (n / 10 / 10) (omega (arith, large)) (omega (arith, few))
    (e ∙ ap (λ (m : ℕ). text ++ decimal m) (sym hundreds))
    (ap (λ (d : ℕ). front ++ glyph d ∷ []) (sym is_a)))
    (ap (λ (d : ℕ). one ++ glyph d ∷ []) (sym is_b)))
    (f ∙ sym (append_assoc front (glyph a ∷ []) (glyph b ∷ glyph c ∷ []))
    ∙ sym (append_assoc one (glyph b ∷ []) (glyph c ∷ []))
    ∙ ap (λ (d : ℕ). two ++ glyph d ∷ []) (sym is_c))

pub ruleset decimals = (digit_low, number_digit, number_below_100, number_below_1000, number_and_three)
