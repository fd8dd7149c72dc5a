-- A number read from its place in a line, one byte after another.
use Rattle.std.proofs.Common.{◌≡◌, ◌≢◌, ℕ, ◌+◌, ◌-◌, ◌*◌, ◌^◌, ◌≤◌, ◌<◌, Bool, true, false, [], ◌∷◌, ◌++◌, length, drop, take, get_or, Option, Some, None, refl, sym, ap, subst, ◌∙◌, inl, inr, arith, length-take}
use Rattle.std.specs.Prelude.{nat_lt, ◌&&◌, slice_range, IfSome}
use Rattle.std.proofs.lemmas.List.{drop_more, get_or-take}
use Rattle.std.proofs.lemmas.List.Edits.{between_more, between_none, length-between}
use Rattle.std.proofs.lemmas.List.Folds.{list_all-append}
use Rattle.std.proofs.lemmas.Slice.{between_is}
use Rattle.std.proofs.lemmas.Bool.{lt-ltb}
use Rattle.mm_types.specs.{Text}
use Rattle.mm_text.specs.{digit_value, value_in, are_digits, limited, number_of_form, number_of, words_from, rest_from, EndsWord, BeginsHex, IsRun}
use Rattle.mm_text.specs.{IsNumberAt, TakesNumber}
use Rattle.mm_text.proofs.Splits.{word_longer, word_ended, word_over, word_begun, rest_some}
use Rattle.mm_text.proofs.Spelled.{no_hex, read_digits}

value_in-more : (base n : ℕ) (cs : Text) (c : ℕ) → value_in base n (cs ++ c ∷ []) ≡ value_in base n cs * base + digit_value c
value_in-more base n [] c = refl
value_in-more base n (d ∷ ds) c = value_in-more base (n * base + digit_value d) ds c

last_true : (a b : Bool) → a ≡ true → b ≡ true → (a && (b && true)) ≡ true
last_true true true p q = refl
last_true true false p q = cc
last_true false b p q = cc

are_digits-more : (base : ℕ) (cs : Text) (c : ℕ) → are_digits base cs ≡ true → digit_value c < base → are_digits base (cs ++ c ∷ []) ≡ true
are_digits-more base cs c all low =
    list_all-append (λ d. nat_lt (digit_value d) base) cs (c ∷ [])
    ∙ last_true (are_digits base cs) (nat_lt (digit_value c) base) all (lt-ltb (digit_value c) base low)

-- what stands between two places of a line are digits of a base of this value, and no space
pub record Passed (base : ℕ) (line : Text) (start to sum : ℕ) : Type 0 where
  pub digits : are_digits base (slice_range line start to) ≡ true
  pub value : value_in base 0 (slice_range line start to) ≡ sum
  pub word : (from : ℕ) → from ≤ start → words_from from (slice_range line from start) (drop start line) ≡ words_from from (slice_range line from to) (drop to line)

pub passed_none : (base : ℕ) (line : Text) (start : ℕ) → Passed base line start start 0
passed_none base line start = record {
  digits = ap (are_digits base) (between_none line start);
  value = ap (value_in base 0) (between_none line start);
  word = λ from h. refl;
}

no_space : (c base : ℕ) → base ≤ 16 → digit_value c < base → c ≢ 32
no_space c base high low e =
    let d : digit_value c ≡ 16 = ap digit_value e in
    absurd (omega (arith, d))

pub passed_more : (base : ℕ) (line : Text) (start to sum c : ℕ) → base ≤ 16 → start ≤ to → to < length line → c ≡ get_or line to 0 → digit_value c < base → Passed base line start to sum → Passed base line start (to + 1) (sum * base + digit_value c)
passed_more base line start to sum c high order within e low p =
    let here : get_or line to 0 ≡ c = sym e in
    let more : slice_range line start (to + 1) ≡ slice_range line start to ++ c ∷ [] = between_more line start to 0 order within ∙ ap (λ b. slice_range line start to ++ b ∷ []) here in
    let other : get_or line to 0 ≢ 32 = λ h. no_space c base high low (e ∙ h) in
    record {
      digits = ap (are_digits base) more ∙ are_digits-more base (slice_range line start to) c p.digits low;
      value = ap (value_in base 0) more ∙ value_in-more base 0 (slice_range line start to) c ∙ ap (λ (n : ℕ). n * base + digit_value c) p.value;
      word = λ from h. p.word from h ∙ word_longer line from to (omega arith) within other;
    }

pub ended_at : (line : Text) (from to : ℕ) → from ≤ to → EndsWord line to → words_from from (slice_range line from to) (drop to line) ≡ record { from = from; text = slice_range line from to } ∷ rest_from (to + 1) line
ended_at line from to order e = elim e [
  | inl over ↦ word_over line from to order over
  | inr here ↦ word_ended line from to order here.0 here.1
]

-- all of a word was passed
pub run_whole : (base most : ℕ) (line : Text) (start to sum : ℕ) → start < to → to ≤ start + most → to ≤ length line → sum < 2 ^ 32 → EndsWord line to → Passed base line start to sum → IsRun base most line start to sum
run_whole base most line start to sum some few within low e p =
    let cs : Text = slice_range line start to in
    let long : length cs ≡ to - start = length-between line start to within in
    record {
      order = omega arith;
      within = within;
      digits = p.digits;
      reads = read_digits base most sum cs (omega (arith, long)) (omega (arith, long)) p.digits p.value low;
      word = λ from h. p.word from h ∙ ended_at line from to (omega arith) e;
    }

pub ruleset runs = (run_whole, passed_none)

pub decimal_at : (line : Text) (from to value : ℕ) → IsRun 10 10 line from to value → IsNumberAt line from to value
decimal_at line from to value r = record {
  order = r.order;
  within = r.within;
  word = word_begun line from ∙ r.word from (omega arith);
  reads = ap (λ o. limited (number_of_form (slice_range line from to) o)) (no_hex (slice_range line from to) r.digits) ∙ r.reads;
}

-- what stands from a place on, after its first two bytes
behind_two : (line : Text) (from to : ℕ) → from + 2 ≤ to → to ≤ length line → slice_range line from to ≡ get_or line from 0 ∷ get_or line (from + 1) 0 ∷ slice_range line (from + 2) to
behind_two line from to order within =
    let front : Text = take to line in
    let long : length front ≡ to = omega (arith, length-take to line) in
    between_is line from to
    ∙ drop_more front from 0 (omega (arith, long))
    ∙ ap (λ r. get_or front from 0 ∷ r) (drop_more front (from + 1) 0 (omega (arith, long)))
    ∙ ap (λ (k : ℕ). get_or front from 0 ∷ get_or front (from + 1) 0 ∷ drop k front) (omega arith)
    ∙ ap (λ (c : ℕ). c ∷ get_or front (from + 1) 0 ∷ drop (from + 2) front) (get_or-take to line from 0 (omega arith))
    ∙ ap (λ (c : ℕ). get_or line from 0 ∷ c ∷ drop (from + 2) front) (get_or-take to line (from + 1) 0 (omega arith))
    ∙ ap (λ r. get_or line from 0 ∷ get_or line (from + 1) 0 ∷ r) (sym (between_is line (from + 2) to))

hex_text : (line : Text) (from to : ℕ) → BeginsHex line from → from + 2 ≤ to → to ≤ length line → slice_range line from to ≡ 0x30 ∷ 0x78 ∷ slice_range line (from + 2) to
hex_text line from to b order within =
    behind_two line from to order within
    ∙ ap (λ (c : ℕ). c ∷ get_or line (from + 1) 0 ∷ slice_range line (from + 2) to) b.zero
    ∙ ap (λ (c : ℕ). 0x30 ∷ c ∷ slice_range line (from + 2) to) b.x

zero_other : (c : ℕ) → c ≡ 0x30 → c ≢ 32
zero_other c e h = absurd (omega (arith, e, h))

x_other : (c : ℕ) → c ≡ 0x78 → c ≢ 32
x_other c e h = absurd (omega (arith, e, h))

hex_begun : (line : Text) (from : ℕ) → BeginsHex line from → words_from from [] (drop from line) ≡ words_from from (slice_range line from (from + 2)) (drop (from + 2) line)
hex_begun line from b =
    word_begun line from
    ∙ word_longer line from from (omega arith) (omega (arith, b.two)) (zero_other (get_or line from 0) b.zero)
    ∙ word_longer line from (from + 1) (omega arith) (omega (arith, b.two)) (x_other (get_or line (from + 1) 0) b.x)
    ∙ ap (λ (k : ℕ). words_from from (slice_range line from k) (drop k line)) (omega arith)

before : (from to : ℕ) → from + 2 ≤ to → from ≤ to
before from to h = omega (arith, h)

pub hex_at : (line : Text) (from to value : ℕ) → BeginsHex line from → IsRun 16 8 line (from + 2) to value → IsNumberAt line from to value
hex_at line from to value b r = record {
  order = before from to r.order;
  within = r.within;
  word = hex_begun line from b ∙ r.word from (after from);
  reads = ap number_of (hex_text line from to b r.order r.within) ∙ r.reads;
}
  where
    after : (n : ℕ) → n ≤ n + 2
    after n = omega arith

-- a digit alone
pub digit_at : (line : Text) (from digit value : ℕ) → from < length line → digit ≡ digit_value (get_or line from 0) → value ≡ digit → digit < 10 → EndsWord line (from + 1) → IsNumberAt line from (from + 1) value
digit_at line from digit value within e v low ends =
    let byte : ℕ = get_or line from 0 in
    let same : 0 * 10 + digit_value byte ≡ value = omega (arith, e, v) in
    let passed : Passed 10 line from (from + 1) (0 * 10 + digit_value byte) =
    passed_more 10 line from from 0 byte (omega arith) (omega arith) within refl (omega (arith, e)) (passed_none 10 line from) in
    decimal_at line from (from + 1) value
    (run_whole 10 10 line from (from + 1) value (omega arith) (omega arith) (omega arith) (omega arith) ends (subst (λ (n : ℕ). Passed 10 line from (from + 1) n) same passed))

pub ruleset digits = (digit_at)

pub hex_some : (line : Text) (from : ℕ) (r : Option (ℕ × ℕ)) → BeginsHex line from → IfSome r (λ x. IsRun 16 8 line (from + 2) x.1 x.0) → IfSome r (λ x. IsNumberAt line from x.1 x.0)
hex_some line from None b h = tt
hex_some line from (Some x) b h = hex_at line from x.1 x.0 b h

pub ruleset numbers = (decimal_at, hex_at)

-- the number was taken
pub number_taken : (line : Text) (from to value : ℕ) → from ≤ length line → IsNumberAt line from to value → TakesNumber (record { line = line; left = rest_from from line }) (record { line = line; left = rest_from (to + 1) line }) from value
number_taken line from to value within n = record {
  text = slice_range line from to;
  line = refl;
  within = within;
  left = rest_some line from within ∙ n.word;
  reads = n.reads;
}

pub ruleset taken = (number_taken)
