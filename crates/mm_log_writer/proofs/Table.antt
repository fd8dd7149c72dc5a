-- The entries of the table of numbers below 1,000.
use Rattle.std.proofs.Common.{◌≡◌, ℕ, zero, suc, ◌+◌, ◌-◌, ◌*◌, ◌/◌, ◌%◌, ◌≤◌, ◌<◌, Bool, cond, List, [], ◌∷◌, ◌++◌, length, get_or, sym, ap, ◌∙◌, inl, inr, arith, take}
use Rattle.std.specs.Prelude.{nat_lt}
use Rattle.std.proofs.lemmas.Bool.{lt-ltb, le-ltb, cases_lt}
use Rattle.std.proofs.lemmas.List.{get_or_append_left, get_or-append_right}
use Rattle.mm_types.specs.{decimal, glyph}
use Rattle.mm_log_writer.specs.{few_entry}
use Rattle.mm_log_writer.proofs.Written.{decimal_one, decimal_two, three_by_pair}

-- the entries of `count` numbers from `start` on
unfoldable pub entries : ℕ → ℕ → List ℕ
entries start zero = []
entries start (suc count) = few_entry start ++ entries (start + 1) count

abbrev one : ℕ → List ℕ
one n = glyph n ∷ 32 ∷ 32 ∷ 49 ∷ []

abbrev two : ℕ → List ℕ
two n = glyph (n / 10) ∷ glyph (n % 10) ∷ 32 ∷ 50 ∷ []

abbrev three : ℕ → List ℕ
three n = glyph (n / 100) ∷ glyph (n % 100 / 10) ∷ glyph (n % 100 % 10) ∷ 51 ∷ []

-- which of the three an entry is
pub data Entry (n : ℕ) : Type 0 where
  IsOne : n < 10 → few_entry n ≡ one n → Entry n
  IsTwo : 10 ≤ n → n < 100 → few_entry n ≡ two n → Entry n
  IsThree : 100 ≤ n → few_entry n ≡ three n → Entry n

pub entry_of : (n : ℕ) → Entry n
entry_of n = elim (cases_lt n 10) [
  | inl low ↦ IsOne low (ap (λ (b : Bool). cond b (one n) (cond (nat_lt n 100) (two n) (three n))) (lt-ltb n 10 low))
  | inr more ↦ (
      let first : few_entry n ≡ cond (nat_lt n 100) (two n) (three n) = ap (λ (b : Bool). cond b (one n) (cond (nat_lt n 100) (two n) (three n))) (le-ltb n 10 more) in
      elim (cases_lt n 100) [
        | inl low ↦ IsTwo more low (first ∙ ap (λ (b : Bool). cond b (two n) (three n)) (lt-ltb n 100 low))
        | inr high ↦ IsThree high (first ∙ ap (λ (b : Bool). cond b (two n) (three n)) (le-ltb n 100 high))
      ])
]

entry_length : (n : ℕ) → length (few_entry n) ≡ 4
entry_length n = elim (entry_of n) [
  | IsOne low e ↦ ap length e
  | IsTwo more low e ↦ ap length e
  | IsThree high e ↦ ap length e
]

-- the entry of a number stands at four times the number
pub entry_at : (start count k i : ℕ) → k < count → i < 4 → get_or (entries start count) (4 * k + i) 0 ≡ get_or (few_entry (start + k)) i 0
unfolding entries
entry_at start zero k i low within = absurd (omega (arith, low))
entry_at start (suc count) zero i low within =
    let here : 4 * 0 + i ≡ i = omega arith in
    let same : start ≡ start + 0 = omega arith in
    get_or_append_left (few_entry start) (entries (start + 1) count) 0 (4 * 0 + i) (omega (arith, entry_length start, within))
    ∙ ap (λ (j : ℕ). get_or (few_entry start) j 0) here
    ∙ ap (λ (n : ℕ). get_or (few_entry n) i 0) same
entry_at start (suc count) (suc k) i low within =
    let behind : 4 * suc k + i - 4 ≡ 4 * k + i = omega arith in
    let same : start + 1 + k ≡ start + suc k = omega arith in
    get_or-append_right (few_entry start) (entries (start + 1) count) 4 (4 * suc k + i) 0 (entry_length start) (omega arith)
    ∙ ap (λ (j : ℕ). get_or (entries (start + 1) count) j 0) behind
    ∙ entry_at (start + 1) count k i (omega (arith, low)) within
    ∙ ap (λ (n : ℕ). get_or (few_entry n) i 0) same

-- what an entry says
pub entry_text : (n : ℕ) → n < 1000 → take (get_or (few_entry n) 3 0 - 48) (get_or (few_entry n) 0 0 ∷ get_or (few_entry n) 1 0 ∷ get_or (few_entry n) 2 0 ∷ []) ≡ decimal n
entry_text n low = elim (entry_of n) [
  | IsOne few e ↦ ap said e ∙ sym (decimal_one n few)
  | IsTwo more few e ↦ ap said e ∙ sym (decimal_two n more few)
  | IsThree high e ↦ ap said e ∙ sym (three_by_pair n high low)
] where
  said : List ℕ → List ℕ
  said t = take (get_or t 3 0 - 48) (get_or t 0 0 ∷ get_or t 1 0 ∷ get_or t 2 0 ∷ [])

pub entry_count : (n : ℕ) → (49 ≤ get_or (few_entry n) 3 0) × (get_or (few_entry n) 3 0 ≤ 51)
entry_count n = elim (entry_of n) [
  | IsOne low e ↦ (omega (arith, ap (λ (t : List ℕ). get_or t 3 0) e), omega (arith, ap (λ (t : List ℕ). get_or t 3 0) e))
  | IsTwo more low e ↦ (omega (arith, ap (λ (t : List ℕ). get_or t 3 0) e), omega (arith, ap (λ (t : List ℕ). get_or t 3 0) e))
  | IsThree high e ↦ (omega (arith, ap (λ (t : List ℕ). get_or t 3 0) e), omega (arith, ap (λ (t : List ℕ). get_or t 3 0) e))
]

-- the last two digits of a number of three, of which the first is 1
pub pair_entry : (n : ℕ) → n < 100 → (get_or (few_entry (100 + n)) 1 0 ≡ glyph (n / 10)) × (get_or (few_entry (100 + n)) 2 0 ≡ glyph (n % 10))
pair_entry n low = elim (entry_of (100 + n)) [
  | IsOne few e ↦ absurd (omega arith)
  | IsTwo more few e ↦ absurd (omega arith)
  | IsThree high e ↦
      let first : (100 + n) % 100 / 10 ≡ n / 10 = omega arith in
      let second : (100 + n) % 100 % 10 ≡ n % 10 = omega arith in
      (ap (λ (t : List ℕ). get_or t 1 0) e ∙ ap glyph first, ap (λ (t : List ℕ). get_or t 2 0) e ∙ ap glyph second)
]
