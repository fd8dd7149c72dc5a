-- Two numbers in leaves where both are small and a leaf is there, in an ordered map otherwise.
use Rattle.std.proofs.Common.{◌≡◌, ℕ, ◌+◌, ◌*◌, ◌<◌, Bool, true, false, cond, Option, Some, None, refl, sym, ap, ◌∙◌, arith}
use Rattle.std.specs.Prelude.{◌&&◌, ◌==◌, nat_lt}
use Rattle.std.proofs.lemmas.Bool.{eqb-true, eq-eqb, ltb-true, and_parts, and_from, cond-false}
use Rattle.std.proofs.lemmas.Option.{cond_some, none-some}
use Rattle.mm_types.proofs.{same_tests, not_true}
use Rattle.mm_replay.proofs.Outcomes.{kept_at}
use Rattle.mm_replay.proofs.Leaves.{none_placed}
use Rattle.mm_replay.specs.{Sets, Same, Writes, Keeps, near_number, at_number, near_part, first_of, either_way}

-- what two small numbers are as one
near_is : (a b n : ℕ) → near_number a b ≡ Some n → (b < 524288) × (a * 524288 + b ≡ n)
near_is a b n e =
    let known = cond_some (nat_lt a 256 && nat_lt b 524288) (a * 524288 + b) n e in
    let small = and_parts (nat_lt a 256) (nat_lt b 524288) known.0 in
    (ltb-true b 524288 small.1, known.1)

same_near : (a b c d m n : ℕ) → near_number a b ≡ Some n → near_number c d ≡ Some m → (m == n) ≡ ((c == a) && (d == b))
same_near a b c d m n e f =
    let one = near_is a b n e in
    let other = near_is c d m f in
    same_tests (m == n) ((c == a) && (d == b))
    (λ t.
    let both : a * 524288 + b ≡ c * 524288 + d = one.1 ∙ sym (eqb-true m n t) ∙ sym other.1 in
    let first : c ≡ a = omega (arith, both, one.0, other.0) in
    let second : d ≡ b = omega (arith, both, first) in
    and_from (c == a) (d == b) (eq-eqb c a first) (eq-eqb d b second))
    (λ t.
    let both = and_parts (c == a) (d == b) t in
    let first : c ≡ a = eqb-true c a both.0 in
    let second : d ≡ b = eqb-true d b both.1 in
    eq-eqb m n (omega (arith, one.1, other.1, first, second)))

-- numbers of which one pair is small and another is not differ
apart : (a b c d : ℕ) → (near_number c d ≡ near_number a b → ⊥) → ((c == a) && (d == b)) ≡ false
apart a b c d differ = not_true ((c == a) && (d == b)) (λ t.
    let both = and_parts (c == a) (d == b) t in
    differ (ap (λ (i : ℕ). near_number i d) (eqb-true c a both.0) ∙ ap (near_number a) (eqb-true d b both.1)))

-- ---- what leaves have for two numbers

module _ {X : Type 0} where
  near_at : (a b n c d : ℕ) (o : Option ℕ) (old new : ℕ → Option X) (x : Option X) → near_number a b ≡ Some n → near_number c d ≡ o → Sets old new n x →
      at_number new o ≡ cond ((c == a) && (d == b)) x (at_number old o)
  near_at a b n c d (Some m) old new x e g sets = sets m ∙ ap (λ (t : Bool). cond t x (old m)) (same_near a b c d m n e g)
  near_at a b n c d None old new x e g sets = sym (cond-false ((c == a) && (d == b)) x None (apart a b c d (λ s. none-some n (sym g ∙ s ∙ e))))

  pub near_sets : (a b n : ℕ) (old new : ℕ → Option X) (x : Option X) → near_number a b ≡ Some n → Sets old new n x → Writes (near_part old) (near_part new) a b x
  unfolding near_part
  near_sets a b n old new x e sets = λ c d. near_at a b n c d (near_number c d) old new x e refl sets

  same_at : (o : Option ℕ) (old new : ℕ → Option X) → Same old new → at_number new o ≡ at_number old o
  same_at (Some m) old new same = same m
  same_at None old new same = refl

  pub near_same : (old new : ℕ → Option X) → Same old new → Keeps (near_part old) (near_part new)
  unfolding near_part
  near_same old new same = λ c d. same_at (near_number c d) old new same

  pub part_of : (near : ℕ → Option X) (a b : ℕ) (o : Option ℕ) → near_number a b ≡ o → near_part near a b ≡ at_number near o
  unfolding near_part
  part_of near a b o e = ap (λ (k : Option ℕ). at_number near k) e

  pub part_far : (near : ℕ → Option X) (a b : ℕ) → near_number a b ≡ None → near_part near a b ≡ None
  part_far near a b e = part_of near a b None e

  pub part_empty : (near : ℕ → Option X) (a b n : ℕ) → near_number a b ≡ Some n → near n ≡ None → near_part near a b ≡ None
  part_empty near a b n e none = part_of near a b (Some n) e ∙ none

  nothing_at : (o : Option ℕ) (near : ℕ → Option X) → ((n : ℕ) → near n ≡ None) → at_number near o ≡ None
  nothing_at (Some n) near f = f n
  nothing_at None near f = refl

  nothing_near : (near : ℕ → Option X) → ((n : ℕ) → near n ≡ None) → (a b : ℕ) → near_part near a b ≡ None
  unfolding near_part
  nothing_near near f a b = nothing_at (near_number a b) near f

-- ---- one table before another

module _ {X : Type 0} where
  first_chosen : (t : Bool) (x : X) (one other new : Option X) → new ≡ cond t (Some x) one → first_of new other ≡ cond t (Some x) (first_of one other)
  first_chosen true x one other new e = ap (λ (o : Option X). first_of o other) e
  first_chosen false x one other new e = ap (λ (o : Option X). first_of o other) e

  none_chosen : (t : Bool) (one other new newer : Option X) → new ≡ cond t None one → newer ≡ cond t None other → first_of new newer ≡ cond t None (first_of one other)
  none_chosen true one other new newer e f = ap (λ (o : Option X). first_of o newer) e ∙ f
  none_chosen false one other new newer e f = ap (λ (o : Option X). first_of o newer) e ∙ ap (first_of one) f

  other_chosen : (t : Bool) (x one other new : Option X) → (t ≡ true → one ≡ None) → new ≡ cond t x other → first_of one new ≡ cond t x (first_of one other)
  other_chosen true x one other new none e = ap (λ (o : Option X). first_of o new) (none refl) ∙ e
  other_chosen false x one other new none e = ap (first_of one) e

  pub near_written : (a b : ℕ) (old new far : ℕ → ℕ → Option X) (x : X) → Writes old new a b (Some x) → Writes (either_way old far) (either_way new far) a b (Some x)
  unfolding either_way
  near_written a b old new far x writes = λ c d. first_chosen ((c == a) && (d == b)) x (old c d) (far c d) (new c d) (writes c d)

  pub far_written : (a b : ℕ) (near old new : ℕ → ℕ → Option X) (x : Option X) → near a b ≡ None → Writes old new a b x → Writes (either_way near old) (either_way near new) a b x
  unfolding either_way
  far_written a b near old new x none writes = λ c d. other_chosen ((c == a) && (d == b)) x (near c d) (old c d) (new c d)
      (λ t.
      let both = and_parts (c == a) (d == b) t in
      ap (λ (i : ℕ). near i d) (eqb-true c a both.0) ∙ ap (near a) (eqb-true d b both.1) ∙ none)
      (writes c d)

  pub both_removed : (a b : ℕ) (old new far further : ℕ → ℕ → Option X) → Writes old new a b None → Writes far further a b None → Writes (either_way old far) (either_way new further) a b None
  unfolding either_way
  both_removed a b old new far further one other = λ c d. none_chosen ((c == a) && (d == b)) (old c d) (far c d) (new c d) (further c d) (one c d) (other c d)

  pub near_kept : (old new far : ℕ → ℕ → Option X) → Keeps old new → Keeps (either_way old far) (either_way new far)
  unfolding either_way
  near_kept old new far same = λ c d. ap (λ (o : Option X). first_of o (far c d)) (same c d)

  pub far_kept : (near old new : ℕ → ℕ → Option X) → Keeps old new → Keeps (either_way near old) (either_way near new)
  unfolding either_way
  far_kept near old new same = λ c d. ap (first_of (near c d)) (same c d)

  pub chosen : (near far : ℕ → ℕ → Option X) (a b : ℕ) {o : Option X} → near a b ≡ o → either_way near far a b ≡ first_of o (far a b)
  unfolding either_way
  chosen near far a b e = ap (λ (x : Option X). first_of x (far a b)) e

  -- what has no value is as if it had been taken away
  pub none_removed : (near : ℕ → ℕ → Option X) (a b : ℕ) → near a b ≡ None → Writes near near a b None
  none_removed near a b none = λ c d. sym (kept_at ((c == a) && (d == b)) None (near c d) (λ t.
      let both = and_parts (c == a) (d == b) t in
      sym (ap (λ (i : ℕ). near i d) (eqb-true c a both.0) ∙ ap (near a) (eqb-true d b both.1) ∙ none)))

-- nothing in leaves and nothing in the map
module _ {X : Type 0} where
  nothing_of : (one other : Option X) → one ≡ None → other ≡ None → first_of one other ≡ None
  nothing_of one other e f = ap (λ (o : Option X). first_of o other) e ∙ f

  pub nothing_found : (near : ℕ → Option X) (far : ℕ → ℕ → Option X) → ((n : ℕ) → near n ≡ None) → ((a b : ℕ) → far a b ≡ None) → (a b : ℕ) → either_way (near_part near) far a b ≡ None
  unfolding either_way
  nothing_found near far f g a b = nothing_of (near_part near a b) (far a b) (nothing_near near f a b) (g a b)

pub ruleset parts = (part_far, part_empty, none_placed)
