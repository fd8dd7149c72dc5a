-- Lines are read again from their rows: digits end themselves, and the first byte of a row tells what follows.
use Rattle.std.proofs.Common.{◌≡◌, ◌⊎◌, ℕ, ◌+◌, ◌-◌, ◌*◌, ◌/◌, ◌%◌, ◌≤◌, ◌<◌, Bool, true, cond, List, [], ◌∷◌, ◌++◌, refl, sym, ap, ◌∙◌, inl, inr, arith}
use Rattle.std.specs.Prelude.{◌&&◌, nat_lt, nat_le}
use Rattle.std.specs.List.{list_all}
use Rattle.std.proofs.lemmas.Bool.{and_parts, or_cases, leb-true, lt-ltb, le-ltb}
use Rattle.mm_types.specs.{Text}
use Rattle.mm_log_walk.specs.{is_hex_digit}
use Rattle.mm_replay.specs.{is_digit}
use Rattle.mm_show.specs.{digit_value, digits_text, pair_text}

pub heads : {A : Type 0} (a b : A) (x y : List A) → a ∷ x ≡ b ∷ y → (a ≡ b) × (x ≡ y)
heads a b x y e = let h : a ≡ b = cc in let t : x ≡ y = cc in (h, t)

-- ---- a digit by its value

abbrev letter : ℕ → ℕ
letter c = cond (nat_lt c 71) (c - 55) 0

abbrev behind : ℕ → ℕ
behind c = cond (nat_lt c 65) 0 (letter c)

pub decimal_value : (c : ℕ) → 48 ≤ c → c ≤ 57 → digit_value c ≡ c - 48
decimal_value c p q =
    ap (λ (b : Bool). cond b 0 (cond (nat_lt c 58) (c - 48) (behind c))) (le-ltb c 48 p) ∙ ap (λ (b : Bool). cond b (c - 48) (behind c)) (lt-ltb c 58 (omega (arith, q)))

letter_value : (c : ℕ) → 65 ≤ c → c ≤ 70 → digit_value c ≡ c - 55
letter_value c p q =
    ap (λ (b : Bool). cond b 0 (cond (nat_lt c 58) (c - 48) (behind c))) (le-ltb c 48 (omega (arith, p)))
    ∙ ap (λ (b : Bool). cond b (c - 48) (behind c)) (le-ltb c 58 (omega (arith, p)))
    ∙ ap (λ (b : Bool). cond b 0 (letter c)) (le-ltb c 65 p)
    ∙ ap (λ (b : Bool). cond b (c - 55) 0) (lt-ltb c 71 (omega (arith, q)))

-- a digit, and its value
record Digit (c : ℕ) : Type 0 where
  value : ℕ
  is : digit_value c ≡ value
  few : value < 16
  of : (c ≡ value + 48 × value ≤ 9) ⊎ (c ≡ value + 55 × 10 ≤ value)

digit : (c : ℕ) → is_hex_digit c ≡ true → Digit c
digit c h = elim (or_cases (is_digit c) (nat_le 0x41 c && nat_le c 0x46) h) [
  | inl d ↦
      (let p = and_parts (nat_le 0x30 c) (nat_le c 0x39) d in
      let low = leb-true 48 c p.0 in
      let high = leb-true c 57 p.1 in
      record { value = c - 48; is = decimal_value c low high; few = omega (arith, low, high); of = inl (omega (arith, low, high), omega (arith, low, high)) })
  | inr d ↦
      (let p = and_parts (nat_le 0x41 c) (nat_le c 0x46) d in
      let low = leb-true 65 c p.0 in
      let high = leb-true c 70 p.1 in
      record { value = c - 55; is = letter_value c low high; few = omega (arith, low, high); of = inr (omega (arith, low, high), omega (arith, low, high)) })
]

few : (c : ℕ) → is_hex_digit c ≡ true → digit_value c < 16
few c h = let d = digit c h in omega (arith, d.is, d.few)

by_value : (c d : ℕ) → Digit c → Digit d → digit_value c ≡ digit_value d → c ≡ d
by_value c d p q e = by p.of q.of
  where
    by : (c ≡ p.value + 48 × p.value ≤ 9) ⊎ (c ≡ p.value + 55 × 10 ≤ p.value) → (d ≡ q.value + 48 × q.value ≤ 9) ⊎ (d ≡ q.value + 55 × 10 ≤ q.value) → c ≡ d
    by (inl a) (inl b) = omega (arith, e, p.is, q.is, a.0, b.0)
    by (inl a) (inr b) = absurd (omega (arith, e, p.is, q.is, a.1, b.1))
    by (inr a) (inl b) = absurd (omega (arith, e, p.is, q.is, a.1, b.1))
    by (inr a) (inr b) = omega (arith, e, p.is, q.is, a.0, b.0)

same_digit : (c d : ℕ) → is_hex_digit c ≡ true → is_hex_digit d ≡ true → digit_value c ≡ digit_value d → c ≡ d
same_digit c d p q e = by_value c d (digit c p) (digit d q) e

-- ---- digits

record Pair (n m : ℕ) (x y : Text) : Type 0 where
  number : n ≡ m
  rest : x ≡ y

pair_again : (n m : ℕ) (x y : Text) → pair_text n ++ x ≡ pair_text m ++ y → Pair n m x y
pair_again n m x y e =
    let h = heads (61 + n / 66) (61 + m / 66) ((61 + n % 66) ∷ x) ((61 + m % 66) ∷ y) e in
    let t = heads (61 + n % 66) (61 + m % 66) x y h.1 in
    record { number = omega (arith, h.0, t.0); rest = t.1 }

pub record Again (a b x y : Text) : Type 0 where
  pub digits : a ≡ b
  pub rest : x ≡ y

abbrev Hex : Text → Type 0
Hex cs = list_all is_hex_digit cs ≡ true

first : (c : ℕ) (cs : Text) → Hex (c ∷ cs) → is_hex_digit c ≡ true
first c cs h = (and_parts (is_hex_digit c) (list_all is_hex_digit cs) h).0

others : (c : ℕ) (cs : Text) → Hex (c ∷ cs) → Hex cs
others c cs h = (and_parts (is_hex_digit c) (list_all is_hex_digit cs) h).1

abbrev two : ℕ → ℕ → ℕ
two a b = 4096 + 16 * digit_value a + digit_value b

abbrev three : ℕ → ℕ → ℕ → ℕ
three a b c = 256 * digit_value a + 16 * digit_value b + digit_value c

three_few : (a b c : ℕ) (cs : Text) → Hex (a ∷ b ∷ c ∷ cs) → three a b c < 4096
three_few a b c cs h =
    let p = few a (first a (b ∷ c ∷ cs) h) in
    let q = few b (first b (c ∷ cs) (others a (b ∷ c ∷ cs) h)) in
    let r = few c (first c cs (others b (c ∷ cs) (others a (b ∷ c ∷ cs) h))) in
    omega (arith, p, q, r)

none_or_pair : (n : ℕ) (x y : Text) → 33 ∷ x ≡ pair_text n ++ y → ⊥
none_or_pair n x y e = absurd (omega (arith, (heads 33 (61 + n / 66) x ((61 + n % 66) ∷ y) e).0))

none_or_one : (v : ℕ) (x y : Text) → 33 ∷ x ≡ (39 + v) ∷ y → ⊥
none_or_one v x y e = absurd (omega (arith, (heads 33 (39 + v) x y e).0))

one_or_pair : (v n : ℕ) (x y : Text) → v < 16 → (39 + v) ∷ x ≡ pair_text n ++ y → ⊥
one_or_pair v n x y f e = absurd (omega (arith, f, (heads (39 + v) (61 + n / 66) x ((61 + n % 66) ∷ y) e).0))

two_or_three : (n m : ℕ) (x y : Text) → 4096 ≤ n → m < 4096 → pair_text n ++ x ≡ pair_text m ++ y → ⊥
two_or_three n m x y p q e = let h = (pair_again n m x y e).number in absurd (omega (arith, h, p, q))

pub digits_again : (a b x y : Text) → list_all is_hex_digit a ≡ true → list_all is_hex_digit b ≡ true → digits_text a ++ x ≡ digits_text b ++ y → Again a b x y
digits_again [] [] x y p q e = record { digits = refl; rest = (heads 33 33 x y e).1 }
digits_again [] (d ∷ []) x y p q e = absurd (none_or_one (digit_value d) x y e)
digits_again [] (d ∷ f ∷ []) x y p q e = absurd (none_or_pair (two d f) x y e)
digits_again [] (d ∷ f ∷ g ∷ ds) x y p q e = absurd (none_or_pair (three d f g) x (digits_text ds ++ y) e)
digits_again (a ∷ []) [] x y p q e = absurd (none_or_one (digit_value a) y x (sym e))
digits_again (a ∷ []) (d ∷ []) x y p q e =
    let h = heads (39 + digit_value a) (39 + digit_value d) x y e in
    record { digits = ap (λ (c : ℕ). c ∷ []) (same_digit a d (first a [] p) (first d [] q) (omega (arith, h.0))); rest = h.1 }
digits_again (a ∷ []) (d ∷ f ∷ []) x y p q e = absurd (one_or_pair (digit_value a) (two d f) x y (few a (first a [] p)) e)
digits_again (a ∷ []) (d ∷ f ∷ g ∷ ds) x y p q e = absurd (one_or_pair (digit_value a) (three d f g) x (digits_text ds ++ y) (few a (first a [] p)) e)
digits_again (a ∷ b ∷ []) [] x y p q e = absurd (none_or_pair (two a b) y x (sym e))
digits_again (a ∷ b ∷ []) (d ∷ []) x y p q e = absurd (one_or_pair (digit_value d) (two a b) y x (few d (first d [] q)) (sym e))
digits_again (a ∷ b ∷ []) (d ∷ f ∷ []) x y p q e =
    let h = pair_again (two a b) (two d f) x y e in
    let v = few b (first b [] (others a (b ∷ []) p)) in
    let w = few f (first f [] (others d (f ∷ []) q)) in
    let s = same_digit a d (first a (b ∷ []) p) (first d (f ∷ []) q) (omega (arith, h.number, v, w)) in
    let t = same_digit b f (first b [] (others a (b ∷ []) p)) (first f [] (others d (f ∷ []) q)) (omega (arith, h.number, v, w)) in
    record { digits = ap (λ (c : ℕ). c ∷ b ∷ []) s ∙ ap (λ (c : ℕ). d ∷ c ∷ []) t; rest = h.rest }
digits_again (a ∷ b ∷ []) (d ∷ f ∷ g ∷ ds) x y p q e = absurd (two_or_three (two a b) (three d f g) x (digits_text ds ++ y) (omega arith) (three_few d f g ds q) e)
digits_again (a ∷ b ∷ c ∷ cs) [] x y p q e = absurd (none_or_pair (three a b c) y (digits_text cs ++ x) (sym e))
digits_again (a ∷ b ∷ c ∷ cs) (d ∷ []) x y p q e = absurd (one_or_pair (digit_value d) (three a b c) y (digits_text cs ++ x) (few d (first d [] q)) (sym e))
digits_again (a ∷ b ∷ c ∷ cs) (d ∷ f ∷ []) x y p q e = absurd (two_or_three (two d f) (three a b c) y (digits_text cs ++ x) (omega arith) (three_few a b c cs p) (sym e))
digits_again (a ∷ b ∷ c ∷ cs) (d ∷ f ∷ g ∷ ds) x y p q e =
    let p1 = others a (b ∷ c ∷ cs) p in
    let p2 = others b (c ∷ cs) p1 in
    let q1 = others d (f ∷ g ∷ ds) q in
    let q2 = others f (g ∷ ds) q1 in
    let h = pair_again (three a b c) (three d f g) (digits_text cs ++ x) (digits_text ds ++ y) e in
    let va = few a (first a (b ∷ c ∷ cs) p) in
    let vb = few b (first b (c ∷ cs) p1) in
    let vc = few c (first c cs p2) in
    let vd = few d (first d (f ∷ g ∷ ds) q) in
    let vf = few f (first f (g ∷ ds) q1) in
    let vg = few g (first g ds q2) in
    let s = same_digit a d (first a (b ∷ c ∷ cs) p) (first d (f ∷ g ∷ ds) q) (omega (arith, h.number, va, vb, vc, vd, vf, vg)) in
    let t = same_digit b f (first b (c ∷ cs) p1) (first f (g ∷ ds) q1) (omega (arith, h.number, va, vb, vc, vd, vf, vg)) in
    let u = same_digit c g (first c cs p2) (first g ds q2) (omega (arith, h.number, va, vb, vc, vd, vf, vg)) in
    let more = digits_again cs ds x y (others c cs p2) (others g ds q2) h.rest in
    record {
      digits = ap (λ (n : ℕ). n ∷ b ∷ c ∷ cs) s ∙ ap (λ (n : ℕ). d ∷ n ∷ c ∷ cs) t ∙ ap (λ (n : ℕ). d ∷ f ∷ n ∷ cs) u ∙ ap (λ (ns : Text). d ∷ f ∷ g ∷ ns) more.digits;
      rest = more.rest;
    }
