-- What the two maps of a working set keep when a page comes, goes, is used, or all become older.
use Rattle.std.proofs.Common.{◌≡◌, ◌≢◌, ◌⊎◌, ℕ, ◌+◌, ◌-◌, ◌<◌, min, true, false, cond, List, length, set, get_or, Option, Some, None, refl, sym, ap, ◌∙◌, inl, inr, arith, get_or-set_same, get_or-set_other}
use Rattle.std.proofs.lemmas.Bool.{cases_eq}
use Rattle.std.specs.Prelude.{IsSome, is_some, option_map}
use Rattle.std.specs.Ordering.{nat_cmp}
use Rattle.std.specs.Cmp.{unsigned_Decides}
use Rattle.std.specs.FinMap as finite
use Rattle.std.specs.FinMap.{FinMap}
use Rattle.mm_types.proofs.{get-remove, differ}
use Rattle.mm_working_sets.specs.{older, AgesBy, EachAtOnePlace, maps, last_round, KnowsUses}
use Rattle.mm_working_sets.proofs.UserLemmas.{here, elsewhere}

abbrev Map : Type 0
Map = FinMap nat_cmp ℕ

gone : (m : Map) (k : ℕ) → finite.get (finite.remove m k) k ≡ None
gone m k = get-remove m k k ∙ ap (λ b. cond b None (finite.get m k)) ((unsigned_Decides k k).1 refl)

remains : (m : Map) (k q : ℕ) → q ≢ k → finite.get (finite.remove m k) q ≡ finite.get m q
remains m k q other = get-remove m k q ∙ ap (λ b. cond b None (finite.get m q)) (differ q k other)

number : (v w : ℕ) → Some v ≡ Some w → v ≡ w
number v w e = cc

-- what stands at a key afterwards was put there, or stood there before
pub put : (m : Map) (k x q y : ℕ) → finite.get (finite.insert m k x) q ≡ Some y → ((q ≡ k) × (x ≡ y)) ⊎ ((q ≢ k) × (finite.get m q ≡ Some y))
put m k x q y e = elim (cases_eq q k) [
  | inl same ↦ inl (same, number x y (sym (here m k x) ∙ ap (finite.get (finite.insert m k x)) (sym same) ∙ e))
  | inr other ↦ inr (other, sym (elsewhere m k x q other) ∙ e)
]

pub kept : (m : Map) (k q y : ℕ) → finite.get (finite.remove m k) q ≡ Some y → (q ≢ k) × (finite.get m q ≡ Some y)
kept m k q y e = elim (cases_eq q k) [
  | inl same ↦ (let bad : None ≡ Some y = sym (gone m k) ∙ ap (finite.get (finite.remove m k)) (sym same) ∙ e in cc)
  | inr other ↦ (other, sym (remains m k q other) ∙ e)
]

some : (o : Option ℕ) (x : ℕ) → o ≡ Some x → IsSome o
some o x e = ap is_some e

not_both : (o : Option ℕ) → o ≡ None → IsSome o → ⊥
not_both o none held = let bad : false ≡ true = sym (ap is_some none) ∙ held in cc

insert_some : (m : Map) (k x q : ℕ) → IsSome (finite.get m q) → IsSome (finite.get (finite.insert m k x) q)
insert_some m k x q held = elim (cases_eq q k) [
  | inl same ↦ ap is_some (ap (finite.get (finite.insert m k x)) same ∙ here m k x)
  | inr other ↦ ap is_some (elsewhere m k x q other) ∙ held
]

module _ (ages places : Map) (is : EachAtOnePlace (maps ages places)) where
  -- page v comes to place p
  module _ (p v : ℕ) (absent : finite.get ages v ≡ None) (vacant : finite.get places p ≡ None) where
    pub each_add : EachAtOnePlace (maps (finite.insert ages v 0) (finite.insert places p v))
    each_add = record {
      aged = λ q w e. elim (put places p v q w e) [
        | inl at ↦ some (finite.get (finite.insert ages v 0) w) 0 (ap (finite.get (finite.insert ages v 0)) (sym at.1) ∙ here ages v 0)
        | inr away ↦ insert_some ages v 0 w (is.aged q w away.1)
      ];
      placed = λ w age e. elim (put ages v 0 w age e) [
        | inl at ↦ (p, here places p v ∙ ap (λ (n : ℕ). Some n) (sym at.0))
        | inr away ↦
            let old = is.placed w age away.1 in
            let apart : old.0 ≢ p = λ same. (let bad : None ≡ Some w = sym vacant ∙ ap (finite.get places) (sym same) ∙ old.1 in cc) in
            (old.0, elsewhere places p v old.0 apart ∙ old.1)
      ];
      once = λ q r w e f. elim (put places p v q w e) [
        | inl at ↦ elim (put places p v r w f) [
          | inl also ↦ at.0 ∙ sym also.0
          | inr away ↦ absurd (not_both (finite.get ages v) absent (let held : IsSome (finite.get ages w) = is.aged r w away.1 in ap (λ (n : ℕ). is_some (finite.get ages n)) at.1 ∙ held))
        ]
        | inr away ↦ elim (put places p v r w f) [
          | inl also ↦ absurd (not_both (finite.get ages v) absent (let held : IsSome (finite.get ages w) = is.aged q w away.1 in ap (λ (n : ℕ). is_some (finite.get ages n)) also.1 ∙ held))
          | inr both ↦ is.once q r w away.1 both.1
        ]
      ];
      young = λ w age e. elim (put ages v 0 w age e) [
        | inl at ↦ omega (arith, at.1)
        | inr away ↦ is.young w age away.1
      ];
    }

  -- page v goes from place p
  module _ (p v : ℕ) (held : finite.get places p ≡ Some v) where
    pub each_remove : EachAtOnePlace (maps (finite.remove ages v) (finite.remove places p))
    each_remove = record {
      aged = λ q w e.
          let old = kept places p q w e in
          let apart : w ≢ v = λ same. old.0 (is.once q p v (old.1 ∙ ap (λ (n : ℕ). Some n) same) held) in
          ap is_some (remains ages v w apart) ∙ is.aged q w old.1;
      placed = λ w age e.
          let old = kept ages v w age e in
          let at = is.placed w age old.1 in
          let apart : at.0 ≢ p = λ same. old.0 (number w v (sym at.1 ∙ ap (finite.get places) same ∙ held)) in
          (at.0, remains places p at.0 apart ∙ at.1);
      once = λ q r w e f. is.once q r w (kept places p q w e).1 (kept places p r w f).1;
      young = λ w age e. is.young w age (kept ages v w age e).1;
    }

  -- a page is used
  pub each_used : (p v : ℕ) → finite.get places p ≡ Some v → EachAtOnePlace (maps (finite.insert ages v 0) places)
  each_used p v held = record {
    aged = λ q w e. insert_some ages v 0 w (is.aged q w e);
    placed = λ w age e. elim (put ages v 0 w age e) [
      | inl at ↦ (p, held ∙ ap (λ (n : ℕ). Some n) (sym at.0))
      | inr away ↦ is.placed w age away.1
    ];
    once = is.once;
    young = λ w age e. elim (put ages v 0 w age e) [
      | inl at ↦ omega (arith, at.1)
      | inr away ↦ is.young w age away.1
    ];
  }

  -- all become older
  pub each_older : (new : Map) → AgesBy older ages new → EachAtOnePlace (maps new places)
  each_older new by = record {
    aged = λ q w e. ap is_some (by w) ∙ as_old (finite.get ages w) ∙ is.aged q w e;
    placed = λ w age e.
        let was = younger (finite.get ages w) age (sym (by w) ∙ e) in
        is.placed w was.0 was.1;
    once = is.once;
    young = λ w age e.
        let was = younger (finite.get ages w) age (sym (by w) ∙ e) in
        omega (arith, was.2);
  } where
    as_old : (o : Option ℕ) → is_some (option_map older o) ≡ is_some o
    as_old None = refl
    as_old (Some x) = refl

    younger : (o : Option ℕ) (age : ℕ) → option_map older o ≡ Some age → (b : ℕ) × (o ≡ Some b) × (age ≡ older b)
    younger None age e = cc
    younger (Some b) age e = (b, refl, (let h : older b ≡ age = cc in sym h))

-- ---- pages known to be used

-- what stands in a list after a write within it
written : (xs : List ℕ) (p x q : ℕ) → p < length xs → ((q ≡ p) × (get_or (set xs p x) q 0 ≡ x)) ⊎ ((q ≢ p) × (get_or (set xs p x) q 0 ≡ get_or xs q 0))
written xs p x q range = elim (cases_eq q p) [
  | inl same ↦ inl (same, ap (λ (n : ℕ). get_or (set xs p x) n 0) same ∙ get_or-set_same xs p x 0 range)
  | inr other ↦ inr (other, get_or-set_other xs p q x 0 other)
]

still_zero : (ages : Map) (v w : ℕ) → finite.get ages w ≡ Some 0 → finite.get (finite.insert ages v 0) w ≡ Some 0
still_zero ages v w e = elim (cases_eq w v) [
  | inl same ↦ ap (finite.get (finite.insert ages v 0)) same ∙ here ages v 0
  | inr other ↦ elsewhere ages v 0 w other ∙ e
]

module _ (ages places : Map) (rounds : ℕ) (used_in : List ℕ) (is : KnowsUses ages places rounds used_in) where
  -- page v is used at place p
  pub uses_used : (p v stamp : ℕ) → p < length used_in → finite.get places p ≡ Some v → stamp ≡ min rounds (last_round - 1) → KnowsUses (finite.insert ages v 0) places rounds (set used_in p stamp)
  uses_used p v stamp range held is_stamp = record {
    early = λ q. elim (written used_in p stamp q range) [ inl at ↦ omega (arith, at.1, is_stamp) | inr away ↦ omega (arith, away.1, is.early q) ];
    never_last = λ q. elim (written used_in p stamp q range) [ inl at ↦ omega (arith, at.1, is_stamp) | inr away ↦ omega (arith, away.1, is.never_last q) ];
    fresh = λ q w e now. elim (written used_in p stamp q range) [
      | inl at ↦
          let same : w ≡ v = number w v (sym e ∙ ap (finite.get places) at.0 ∙ held) in
          ap (finite.get (finite.insert ages v 0)) same ∙ here ages v 0
      | inr away ↦ still_zero ages v w (is.fresh q w e (sym away.1 ∙ now))
    ];
  }

  -- page v comes to place p
  pub uses_add : (p v stamp : ℕ) → p < length used_in → stamp ≡ min rounds (last_round - 1) → KnowsUses (finite.insert ages v 0) (finite.insert places p v) rounds (set used_in p stamp)
  uses_add p v stamp range is_stamp = record {
    early = λ q. elim (written used_in p stamp q range) [ inl at ↦ omega (arith, at.1, is_stamp) | inr away ↦ omega (arith, away.1, is.early q) ];
    never_last = λ q. elim (written used_in p stamp q range) [ inl at ↦ omega (arith, at.1, is_stamp) | inr away ↦ omega (arith, away.1, is.never_last q) ];
    fresh = λ q w e now. elim (written used_in p stamp q range) [
      | inl at ↦
          let same : v ≡ w = number v w (sym (here places p v) ∙ ap (finite.get (finite.insert places p v)) (sym at.0) ∙ e) in
          ap (finite.get (finite.insert ages v 0)) (sym same) ∙ here ages v 0
      | inr away ↦ still_zero ages v w (is.fresh q w (sym (elsewhere places p v q away.0) ∙ e) (sym away.1 ∙ now))
    ];
  }

  -- page v goes from place p
  pub uses_remove : (p v : ℕ) → EachAtOnePlace (maps ages places) → finite.get places p ≡ Some v → KnowsUses (finite.remove ages v) (finite.remove places p) rounds used_in
  uses_remove p v each held = record {
    early = is.early;
    never_last = is.never_last;
    fresh = λ q w e now.
        let old = kept places p q w e in
        let apart : w ≢ v = λ same. old.0 (each.once q p v (old.1 ∙ ap (λ (n : ℕ). Some n) same) held) in
        remains ages v w apart ∙ is.fresh q w old.1 now;
  }

  -- a new round, in which no page is used yet
  pub uses_older : (new : Map) (next : ℕ) → next ≡ min (rounds + 1) last_round → KnowsUses new places next used_in
  uses_older new next is_next = record {
    early = λ q. omega (arith, is.early q, is.never_last q, is_next);
    never_last = is.never_last;
    fresh = λ q w e now. absurd (omega (arith, now, is.early q, is.never_last q, is_next));
  }
