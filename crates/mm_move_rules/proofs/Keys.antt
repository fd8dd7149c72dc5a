-- Keys by their test.
use Rattle.std.proofs.Common.{◌≡◌, true, arith}
use Rattle.std.specs.Prelude.{◌==◌}
use Rattle.std.proofs.lemmas.Bool.{and_parts, eqb-true}
use Rattle.mm_types.specs.{Key}
use Rattle.mm_types.specs.declared.numbers.Key.TheVariants as key
use Rattle.mm_move_rules.specs.{same_key}

pub same_key-true : (k q : Key) → same_key k q ≡ true → k ≡ q
same_key-true (key.Private p v) (key.Private q w) e =
    let h = and_parts (p.0 == q.0) (v.0 == w.0) e in
    let a : p.0 ≡ q.0 = eqb-true p.0 q.0 h.0 in
    let b : v.0 ≡ w.0 = eqb-true v.0 w.0 h.1 in
    (λ i. key.Private (record { 0 = a i }) (record { 0 = b i }))
same_key-true (key.Shared a i) (key.Shared b j) e =
    let h = and_parts (a.0 == b.0) (i == j) e in
    let c : a.0 ≡ b.0 = eqb-true a.0 b.0 h.0 in
    let d : i ≡ j = eqb-true i j h.1 in
    (λ t. key.Shared (record { 0 = c t }) (d t))
same_key-true _ _ e = cc

pub same_key-self : (k : Key) → same_key k k ≡ true
same_key-self (key.Private p v) = grind arith
same_key-self (key.Shared a i) = grind arith
