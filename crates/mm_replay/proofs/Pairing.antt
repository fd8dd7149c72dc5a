-- What calls of a map do to what it has for two numbers.
use Rattle.std.proofs.Common.{◌≡◌, ℕ, ◌+◌, ◌*◌, ◌<◌, ◌≤◌, Bool, true, false, cond, List, [], Option, Some, None, refl, sym, ap, ◌∙◌, subst, inl, inr, arith}
use Rattle.std.specs.Prelude.{◌&&◌, ◌==◌, nat_lt, IsSome}
use Rattle.std.specs.BTreeMap.{BTreeMap, WritesThrough, is_at}
use Rattle.std.specs.Map.{lookup}
use Rattle.std.specs.Ordering.{nat_cmp, is_eq}
use Rattle.std.specs.Cmp.{unsigned_tied}
use Rattle.std.proofs.lemmas.Bool.{eqb-true, eq-eqb, ne_eqb, and_parts, and_from, and_right, lt-ltb, le-ltb, cases_lt, cond-true, cond-false}
use Rattle.mm_types.proofs.{same_tests}
use Rattle.mm_replay.specs.{one_number, under, mapped, Writes}

pub same_number : (a b c d : ℕ) → b < 4294967296 → d < 4294967296 → (one_number a b == one_number c d) ≡ ((c == a) && (d == b))
same_number a b c d low high =
    same_tests (one_number a b == one_number c d) ((c == a) && (d == b))
    (λ e.
    let one : a * 4294967296 + b ≡ c * 4294967296 + d = eqb-true (one_number a b) (one_number c d) e in
    let first : c ≡ a = omega (arith, one, low, high) in
    let second : d ≡ b = omega (arith, one, first, low, high) in
    and_from (c == a) (d == b) (eq-eqb c a first) (eq-eqb d b second))
    (λ e.
    let both = and_parts (c == a) (d == b) e in
    let first : c ≡ a = eqb-true c a both.0 in
    let second : d ≡ b = eqb-true d b both.1 in
    let one : a * 4294967296 + b ≡ c * 4294967296 + d = omega (arith, first, second) in
    eq-eqb (one_number a b) (one_number c d) one)

cond_none : {X : Type 0} (t : Bool) → ◌≡◌ {A = Option X} (cond t None None) None
cond_none true = refl
cond_none false = refl

module _ {X : Type 0} where
  within : (m : BTreeMap ℕ X) (a b : ℕ) → b < 4294967296 → mapped m a b ≡ under m (one_number a b)
  unfolding mapped
  within m a b low = cond-true (nat_lt b 4294967296) (under m (one_number a b)) None (lt-ltb b 4294967296 low)

  past : (m : BTreeMap ℕ X) (a b : ℕ) → 4294967296 ≤ b → mapped m a b ≡ None
  unfolding mapped
  past m a b high = cond-false (nat_lt b 4294967296) (under m (one_number a b)) None (le-ltb b 4294967296 high)

  pub mapped_same : (m n : BTreeMap ℕ X) → n.entries ≡ m.entries → (a b : ℕ) → mapped n a b ≡ mapped m a b
  unfolding mapped
  mapped_same m n e a b = ap (λ (es : List (ℕ × X)). cond (nat_lt b 4294967296) (lookup (is_at (nat_cmp (one_number a b))) es) None) e

  pub mapped_none : (m : BTreeMap ℕ X) → m.entries ≡ [] → (a b : ℕ) → mapped m a b ≡ None
  unfolding mapped
  mapped_none m e a b = ap (λ (es : List (ℕ × X)). cond (nat_lt b 4294967296) (lookup (is_at (nat_cmp (one_number a b))) es) None) e ∙ cond_none (nat_lt b 4294967296)

  -- the two numbers, as one, are k
  module _ (m : BTreeMap ℕ X) (a b k : ℕ) (low : b < 4294967296) (is : k ≡ one_number a b) where
    pub mapped_at : mapped m a b ≡ under m k
    mapped_at = within m a b low ∙ ap (under m) (sym is)

    pub mapped_written : (n : BTreeMap ℕ X) (x : Option X) → ((q : ℕ) → under n q ≡ cond (is_eq (nat_cmp k q)) x (under m q)) → Writes (mapped m) (mapped n) a b x
    mapped_written n x written = λ c d. elim (cases_lt d 4294967296) [
      | inl near ↦
          within n c d near ∙ written (one_number c d)
          ∙ ap (λ (t : Bool). cond t x (under m (one_number c d)))
          (unsigned_tied k (one_number c d) ∙ ap (λ (i : ℕ). i == one_number c d) is ∙ same_number a b c d low near)
          ∙ ap (λ (o : Option X). cond ((c == a) && (d == b)) x o) (sym (within m c d near))
      | inr far ↦
          let other : (d == b) ≡ false = ne_eqb d b (λ e. omega (arith, e, low, far)) in
          past n c d far ∙ sym (past m c d far) ∙ sym (cond-false ((c == a) && (d == b)) x (mapped m c d) (and_right (c == a) (d == b) other))
    ]

    -- what is written through `get_mut`
    pub mapped_through : (n : BTreeMap ℕ X) (v w : X) → WritesThrough nat_cmp (nat_cmp k) m w n → Some v ≡ under m k → Writes (mapped m) (mapped n) a b (Some w)
    mapped_through n v w writes there = mapped_written n (Some w) ((writes.3 (subst IsSome there refl)).0)
