-- The words of lines have no spaces and no carriage returns in them.
use Rattle.std.proofs.Common.{◌≡◌, ℕ, ◌^◌, ◌≤◌, ◌<◌, List, [], ◌∷◌, length, Bool, true, false, cond, eqb, ◌&&◌, Option, Some, None, refl, sym, ap, ◌∙◌, subst}
use Rattle.std.specs.Prelude.{nat_le, nat_lt, option_and_then}
use Rattle.std.specs.List.{list_all}
use Rattle.std.proofs.lemmas.Bool.{eqb-true, ltb-true, leb-true, and_parts, false≢true}
use Rattle.std.proofs.lemmas.Option.{cond_some, same_Some}
use Rattle.mm_types.specs.{Text}
use Rattle.mm_text.specs.{digit_value, digits_in, are_digits, hex_digits, limited, number_of_form, number_of, pair_of, byte_before, pairs_of}
use Rattle.mm_text.specs.{few_bytes, bytes_of_pairs, is_letter, is_name_byte, is_name, name_of}
use Rattle.mm_script.proofs.Joined.{is_plain, IsPlain}

-- what was read was made of parts that were
pub limited_some : (o : Option ℕ) (n : ℕ) → limited o ≡ Some n → (o ≡ Some n) × (n < 2 ^ 32)
limited_some None n h = cc
limited_some (Some m) n h =
    let t = cond_some (nat_lt m (2 ^ 32)) m n h in
    (ap (λ k. Some k) t.1, subst (λ k. k < 2 ^ 32) t.1 (ltb-true m (2 ^ 32) t.0))

pub before_some : (o : Option ℕ) (bs : Option (List ℕ)) (xs : List ℕ) → byte_before o bs ≡ Some xs → (b : ℕ) × (ys : List ℕ) × (o ≡ Some b) × (bs ≡ Some ys) × (b ∷ ys ≡ xs)
before_some None bs xs h = cc
before_some (Some b) None xs h = cc
before_some (Some b) (Some ys) xs h = (b, ys, refl, refl, same_Some (b ∷ ys) xs h)

pub few_some : (o : Option (List ℕ)) (bs : List ℕ) → option_and_then few_bytes o ≡ Some bs → (o ≡ Some bs) × (1 ≤ length bs) × (length bs ≤ 64)
few_some None bs h = cc
few_some (Some ys) bs h =
    let t = cond_some (nat_le 1 (length ys) && nat_le (length ys) 64) ys bs h in
    let p = and_parts (nat_le 1 (length ys)) (nat_le (length ys) 64) t.0 in
    (ap (λ xs. Some xs) t.1, subst (λ (xs : List ℕ). 1 ≤ length xs) t.1 (leb-true 1 (length ys) p.0), subst (λ (xs : List ℕ). length xs ≤ 64) t.1 (leb-true (length ys) 64 p.1))

-- a test that space and carriage return fail leaves plain bytes alone
plain_by : (test : ℕ → Bool) → test 0x20 ≡ false → test 0x0D ≡ false → (c : ℕ) → test c ≡ true → is_plain c ≡ true
plain_by test space ret c h = elim (eqb c 0x20) as (λ b. eqb c 0x20 ≡ b → cond b false (cond (eqb c 0x0D) false true) ≡ true) [
  | true ↦ λ e. absurd (false≢true (sym space ∙ ap test (sym (eqb-true c 0x20 e)) ∙ h))
  | false ↦ λ _. elim (eqb c 0x0D) as (λ b. eqb c 0x0D ≡ b → cond b false true ≡ true) [
    | true ↦ λ e. absurd (false≢true (sym ret ∙ ap test (sym (eqb-true c 0x0D e)) ∙ h))
    | false ↦ λ _. refl
  ] refl
] refl

pub plain_all : (test : ℕ → Bool) → test 0x20 ≡ false → test 0x0D ≡ false → (cs : Text) → list_all test cs ≡ true → IsPlain cs
plain_all test space ret [] h = tt
plain_all test space ret (c ∷ cs) h =
    let p = and_parts (test c) (list_all test cs) h in
    (plain_by test space ret c p.0, plain_all test space ret cs p.1)

plain_digits : (base most : ℕ) (cs : Text) (n : ℕ) → nat_lt 16 base ≡ false → digits_in base most cs ≡ Some n → IsPlain cs
plain_digits base most cs n low h =
    let t = (cond_some (nat_le 1 (length cs) && nat_le (length cs) most && are_digits base cs) _ n h).0 in
    let p = and_parts (nat_le 1 (length cs) && nat_le (length cs) most) (are_digits base cs) t in
    plain_all (λ c. nat_lt (digit_value c) base) low low cs p.1

-- hexadecimal digits stand after plain bytes
plain_hex : (cs ds : Text) → hex_digits cs ≡ Some ds → IsPlain ds → IsPlain cs
plain_hex [] ds h p = tt
plain_hex (a ∷ []) ds h p = cc
plain_hex (a ∷ b ∷ cs) ds h p =
    let t = cond_some (eqb a 0x30 && eqb b 0x78) cs ds h in
    let q = and_parts (eqb a 0x30) (eqb b 0x78) t.0 in
    (plain_by (λ c. eqb c 0x30) refl refl a q.0, (plain_by (λ c. eqb c 0x78) refl refl b q.1, subst IsPlain (sym t.1) p))

plain_number_in : (cs : Text) (o : Option Text) (n : ℕ) → hex_digits cs ≡ o → number_of_form cs o ≡ Some n → IsPlain cs
plain_number_in cs None n e h = plain_digits 10 10 cs n refl h
plain_number_in cs (Some ds) n e h = plain_hex cs ds e (plain_digits 16 8 ds n refl h)

pub plain_number : (cs : Text) (n : ℕ) → number_of cs ≡ Some n → IsPlain cs
plain_number cs n h = plain_number_in cs (hex_digits cs) n refl (limited_some (number_of_form cs (hex_digits cs)) n h).0

plain_pairs : (cs : Text) (bs : List ℕ) → pairs_of cs ≡ Some bs → IsPlain cs
plain_pairs [] bs h = tt
plain_pairs (c ∷ []) bs h = cc
plain_pairs (c ∷ d ∷ cs) bs h =
    let p = before_some (pair_of c d) (pairs_of cs) bs h in
    let t = (cond_some (nat_lt (digit_value c) 16 && nat_lt (digit_value d) 16) _ p.0 p.2).0 in
    let q = and_parts (nat_lt (digit_value c) 16) (nat_lt (digit_value d) 16) t in
    (plain_by (λ x. nat_lt (digit_value x) 16) refl refl c q.0, (plain_by (λ x. nat_lt (digit_value x) 16) refl refl d q.1, plain_pairs cs p.1 p.3))

pub plain_bytes : (cs : Text) (bs : List ℕ) → bytes_of_pairs cs ≡ Some bs → IsPlain cs
plain_bytes cs bs h = plain_pairs cs bs (few_some (pairs_of cs) bs h).0

plain_named : (cs : Text) → is_name cs ≡ true → IsPlain cs
plain_named [] h = tt
plain_named (c ∷ cs) h =
    let q = and_parts (is_letter c) (list_all is_name_byte cs) h in
    (plain_by is_letter refl refl c q.0, plain_all is_name_byte refl refl cs q.1)

pub plain_name : (cs name : Text) → name_of cs ≡ Some name → IsPlain cs
plain_name cs name h =
    let t = (cond_some (is_name cs && nat_le (length cs) 32) cs name h).0 in
    plain_named cs (and_parts (is_name cs) (nat_le (length cs) 32) t).0
