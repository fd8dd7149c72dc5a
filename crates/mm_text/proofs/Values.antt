-- The value of digits, read from the first on.
use Rattle.std.proofs.Common.{◌≡◌, ℕ, ◌+◌, ◌*◌, ◌^◌, ◌≤◌, ◌<◌, Bool, true, false, cond, [], ◌∷◌, length, drop, get_or, Option, Some, None, refl, sym, ap, ◌∙◌, arith}
use Rattle.std.specs.Prelude.{nat_lt, nat_le, ◌&&◌}
use Rattle.std.proofs.lemmas.List.{drop_more, drop_all}
use Rattle.std.proofs.lemmas.Bool.{and_right, lt-ltb, le-ltb, le-leb, lt-leb, leb-true, agree_below_at}
use Rattle.std.proofs.lemmas.Nat.{mul-le}
use Rattle.std.proofs.lemmas.Grind.{pow_more}
use Rattle.mm_types.specs.{Text}
use Rattle.mm_text.specs.{digit_value, value_in, are_digits, digits_in, below_limit, limited}

-- the value of digits after others of the value n, where all are digits and the value stays below the limit
abbrev pub scan : ℕ → ℕ → Text → Option ℕ
scan base n [] = below_limit n
scan base n (c ∷ cs) = cond (nat_lt (digit_value c) base) (scan base (n * base + digit_value c) cs) None

-- a test of more
abbrev when : Bool → Option ℕ → Option ℕ
when b o = cond b o None

when-and : (a b : Bool) (o : Option ℕ) → when (a && b) o ≡ when a (when b o)
when-and true b o = refl
when-and false b o = refl

pub scan_is : (base n : ℕ) (cs : Text) → scan base n cs ≡ when (are_digits base cs) (below_limit (value_in base n cs))
scan_is base n [] = refl
scan_is base n (c ∷ cs) =
    ap (λ o. when (nat_lt (digit_value c) base) o) (scan_is base (n * base + digit_value c) cs)
    ∙ sym (when-and (nat_lt (digit_value c) base) (are_digits base cs) (below_limit (value_in base (n * base + digit_value c) cs)))

limited_when : (b : Bool) (n : ℕ) → limited (when b (Some n)) ≡ when b (below_limit n)
limited_when true n = refl
limited_when false n = refl

limited_short : (a b : Bool) (n : ℕ) → a ≡ true → limited (when (a && b) (Some n)) ≡ when b (below_limit n)
limited_short a b n e = ap (λ t. limited (when (t && b) (Some n))) e ∙ limited_when b n

-- digits of a length that is allowed
pub scan_whole : (base most : ℕ) (cs : Text) → 1 ≤ length cs → length cs ≤ most → limited (digits_in base most cs) ≡ scan base 0 cs
scan_whole base most cs some few =
    let a : (nat_le 1 (length cs) && nat_le (length cs) most) ≡ true = ap (λ t. t && nat_le (length cs) most) (le-leb 1 (length cs) some) ∙ le-leb (length cs) most few in
    limited_short (nat_le 1 (length cs) && nat_le (length cs) most) (are_digits base cs) (value_in base 0 cs) a ∙ sym (scan_is base 0 cs)

pub digits_in-empty : (base most : ℕ) (cs : Text) → length cs ≡ 0 → limited (digits_in base most cs) ≡ None
digits_in-empty base most cs e =
    ap (λ k. limited (when (nat_le 1 k && nat_le k most && are_digits base cs) (Some (value_in base 0 cs)))) e

pub digits_in-long : (base most : ℕ) (cs : Text) → most < length cs → limited (digits_in base most cs) ≡ None
digits_in-long base most cs long =
    let a : (nat_le 1 (length cs) && nat_le (length cs) most) ≡ false = and_right (nat_le 1 (length cs)) (nat_le (length cs) most) (lt-leb (length cs) most long) in
    ap (λ t. limited (when (t && are_digits base cs) (Some (value_in base 0 cs)))) a

-- a value that is too large only grows
pub scan_large : (base n : ℕ) (cs : Text) → 1 ≤ base → 2 ^ 32 ≤ n → scan base n cs ≡ None
scan_large base n [] some large = ap (λ t. when t (Some n)) (le-ltb n (2 ^ 32) large)
scan_large base n (c ∷ cs) some large =
    let grown : n * 1 ≤ n * base = mul-le n 1 n base (omega arith) some in
    let next : 2 ^ 32 ≤ n * base + digit_value c = omega arith in
    ap (λ o. when (nat_lt (digit_value c) base) o) (scan_large base (n * base + digit_value c) cs some next) ∙ none_either (nat_lt (digit_value c) base)
  where
    none_either : (b : Bool) → when b None ≡ None
    none_either true = refl
    none_either false = refl

-- one digit more, at a place of the list
module _ (base n : ℕ) (cs : Text) (i : ℕ) (within : i < length cs) where
  scan_at : scan base n (drop i cs) ≡ when (nat_lt (digit_value (get_or cs i 0)) base) (scan base (n * base + digit_value (get_or cs i 0)) (drop (i + 1) cs))
  scan_at = ap (λ r. scan base n r) (drop_more cs i 0 within)

  pub scan_more : digit_value (get_or cs i 0) < base → scan base n (drop i cs) ≡ scan base (n * base + digit_value (get_or cs i 0)) (drop (i + 1) cs)
  scan_more low = scan_at ∙ ap (λ t. when t (scan base (n * base + digit_value (get_or cs i 0)) (drop (i + 1) cs))) (lt-ltb (digit_value (get_or cs i 0)) base low)

  pub scan_bad : base ≤ digit_value (get_or cs i 0) → scan base n (drop i cs) ≡ None
  scan_bad high = scan_at ∙ ap (λ t. when t (scan base (n * base + digit_value (get_or cs i 0)) (drop (i + 1) cs))) (le-ltb (digit_value (get_or cs i 0)) base high)

pub scan_end : (base n : ℕ) (cs : Text) (i : ℕ) → length cs ≤ i → n < 2 ^ 32 → scan base n (drop i cs) ≡ Some n
scan_end base n cs i over low = ap (λ r. scan base n r) (drop_all i cs over) ∙ ap (λ t. when t (Some n)) (lt-ltb n (2 ^ 32) low)

-- up to ten digits fit 64 bits
power_fits : (i : ℕ) → i ≤ 10 → 16 ^ i ≤ 2 ^ 40
power_fits i few = leb-true (16 ^ i) (2 ^ 40) (agree_below_at (λ k. nat_le (16 ^ k) (2 ^ 40)) (λ _. true) 11 i refl (omega arith))

pub sum_fits : (base n i : ℕ) → base ≤ 16 → i ≤ 10 → n < 16 ^ i → n * base ≤ 2 ^ 44
sum_fits base n i high few low =
    let power : 16 ^ i ≤ 2 ^ 40 = power_fits i few in
    let product : n * base ≤ 2 ^ 40 * 16 = mul-le n base (2 ^ 40) 16 (omega arith) high in
    omega arith

pub sum_grows : (base n d i : ℕ) → base ≤ 16 → d < base → n < 16 ^ i → n * base + d < 16 ^ (i + 1)
sum_grows base n d i high digit low =
    let product : n * base ≤ n * 16 = mul-le n base n 16 (omega arith) high in
    omega (arith, pow_more 16 i)

pub ruleset values = (scan_whole, digits_in-empty, digits_in-long, scan_more, scan_bad, scan_large, scan_end, sum_grows)
