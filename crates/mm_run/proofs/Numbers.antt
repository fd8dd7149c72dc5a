-- The value of a word of decimal digits, read from the first on.
use Rattle.std.proofs.Common.{◌≡◌, ℕ, ◌+◌, ◌*◌, ◌^◌, ◌≤◌, ◌<◌, Bool, true, false, cond, [], ◌∷◌, length, drop, get_or, Option, Some, None, refl, sym, ap, ◌∙◌, arith}
use Rattle.std.specs.Prelude.{nat_lt, nat_le, ◌&&◌, option_and_then}
use Rattle.std.proofs.lemmas.List.{drop_more, drop_all}
use Rattle.std.proofs.lemmas.Bool.{and_right, lt-ltb, le-ltb, le-leb, lt-leb}
use Rattle.mm_types.specs.{Text}
use Rattle.mm_text.specs.{digit_value, value_in, are_digits}
use Rattle.mm_run.specs.{below_64, word_value}

-- the value of digits after others of the value n, where all are digits and the value stays below the limit
abbrev pub scan : ℕ → Text → Option ℕ
scan n [] = below_64 n
scan n (c ∷ cs) = cond (nat_lt (digit_value c) 10) (scan (n * 10 + digit_value c) cs) None

abbrev when : Bool → Option ℕ → Option ℕ
when b o = cond b o None

when-and : (a b : Bool) (o : Option ℕ) → when (a && b) o ≡ when a (when b o)
when-and true b o = refl
when-and false b o = refl

scan_is : (n : ℕ) (cs : Text) → scan n cs ≡ when (are_digits 10 cs) (below_64 (value_in 10 n cs))
scan_is n [] = refl
scan_is n (c ∷ cs) =
    ap (λ o. when (nat_lt (digit_value c) 10) o) (scan_is (n * 10 + digit_value c) cs)
    ∙ sym (when-and (nat_lt (digit_value c) 10) (are_digits 10 cs) (below_64 (value_in 10 (n * 10 + digit_value c) cs)))

abbrev limited : Bool → ℕ → Option ℕ
limited b n = option_and_then below_64 (when b (Some n))

limited_when : (b : Bool) (n : ℕ) → limited b n ≡ when b (below_64 n)
limited_when true n = refl
limited_when false n = refl

limited_short : (a b : Bool) (n : ℕ) → a ≡ true → limited (a && b) n ≡ when b (below_64 n)
limited_short a b n e = ap (λ t. limited (t && b) n) e ∙ limited_when b n

-- digits of a length that is allowed
pub scan_whole : (most : ℕ) (cs : Text) → 1 ≤ length cs → length cs ≤ most → word_value most cs ≡ scan 0 cs
scan_whole most cs some few =
    let a : (nat_le 1 (length cs) && nat_le (length cs) most) ≡ true = ap (λ t. t && nat_le (length cs) most) (le-leb 1 (length cs) some) ∙ le-leb (length cs) most few in
    limited_short (nat_le 1 (length cs) && nat_le (length cs) most) (are_digits 10 cs) (value_in 10 0 cs) a ∙ sym (scan_is 0 cs)

pub word_value-empty : (most : ℕ) (cs : Text) → length cs ≡ 0 → word_value most cs ≡ None
word_value-empty most cs e =
    ap (λ k. limited (nat_le 1 k && nat_le k most && are_digits 10 cs) (value_in 10 0 cs)) e

pub word_value-long : (most : ℕ) (cs : Text) → most < length cs → word_value most cs ≡ None
word_value-long most cs long =
    let a : (nat_le 1 (length cs) && nat_le (length cs) most) ≡ false = and_right (nat_le 1 (length cs)) (nat_le (length cs) most) (lt-leb (length cs) most long) in
    ap (λ t. limited (t && are_digits 10 cs) (value_in 10 0 cs)) a

-- a value that is too large only grows
pub scan_large : (n : ℕ) (cs : Text) → 2 ^ 64 ≤ n → scan n cs ≡ None
scan_large n [] large = ap (λ t. when t (Some n)) (le-ltb n (2 ^ 64) large)
scan_large n (c ∷ cs) large =
    let next : 2 ^ 64 ≤ n * 10 + digit_value c = omega arith in
    ap (λ o. when (nat_lt (digit_value c) 10) o) (scan_large (n * 10 + digit_value c) cs next) ∙ none_either (nat_lt (digit_value c) 10)
  where
    none_either : (b : Bool) → when b None ≡ None
    none_either true = refl
    none_either false = refl

-- one digit more, at a place of the list
module _ (n : ℕ) (cs : Text) (i : ℕ) (within : i < length cs) where
  scan_at : scan n (drop i cs) ≡ when (nat_lt (digit_value (get_or cs i 0)) 10) (scan (n * 10 + digit_value (get_or cs i 0)) (drop (i + 1) cs))
  scan_at = ap (λ r. scan n r) (drop_more cs i 0 within)

  pub scan_more : digit_value (get_or cs i 0) < 10 → scan n (drop i cs) ≡ scan (n * 10 + digit_value (get_or cs i 0)) (drop (i + 1) cs)
  scan_more low = scan_at ∙ ap (λ t. when t (scan (n * 10 + digit_value (get_or cs i 0)) (drop (i + 1) cs))) (lt-ltb (digit_value (get_or cs i 0)) 10 low)

  pub scan_bad : 10 ≤ digit_value (get_or cs i 0) → scan n (drop i cs) ≡ None
  scan_bad high = scan_at ∙ ap (λ t. when t (scan (n * 10 + digit_value (get_or cs i 0)) (drop (i + 1) cs))) (le-ltb (digit_value (get_or cs i 0)) 10 high)

  pub scan_over : digit_value (get_or cs i 0) < 10 → 2 ^ 64 ≤ n * 10 + digit_value (get_or cs i 0) → scan n (drop i cs) ≡ None
  scan_over low large = scan_more low ∙ scan_large (n * 10 + digit_value (get_or cs i 0)) (drop (i + 1) cs) large

pub scan_end : (n : ℕ) (cs : Text) (i : ℕ) → length cs ≤ i → n < 2 ^ 64 → scan n (drop i cs) ≡ Some n
scan_end n cs i over low = ap (λ r. scan n r) (drop_all i cs over) ∙ ap (λ t. when t (Some n)) (lt-ltb n (2 ^ 64) low)

pub ruleset numbers = (scan_whole, word_value-empty, word_value-long, scan_more, scan_bad, scan_over, scan_end)
