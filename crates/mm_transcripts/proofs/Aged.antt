-- Counts and stamps, and the ages that they show.
use Rattle.std.proofs.Common.{◌≡◌, ℕ, ◌+◌, ◌-◌, ◌≤◌, Bool, true, false, cond, ◌&&◌, min, List, Option, Some, None, refl, sym, ap, ◌∙◌, subst, arith, option_map}
use Rattle.std.specs.Prelude.{◌==◌, slice_index, Result, Ok, Err, OnOk, OnErr}
use Rattle.std.proofs.lemmas.Bool.{eqb-true}
use Rattle.mm_types.specs.{Pid, Place, NoMemory}
use Rattle.mm_move_rules.specs.{same_place}
use Rattle.mm_transcripts.specs.{at_place, one_older, older_of, one_age_more, age_by, age_by_stamp, AreTouchedBefore}

-- ---- the same place is of one process

both : (a b : Bool) → (a && b) ≡ true → a ≡ true
both true b e = refl
both false b e = cc

same_pid : (p q : Place) → same_place p q ≡ true → p.pid.0 ≡ q.pid.0
same_pid p q e = eqb-true p.pid.0 q.pid.0 (both (p.pid.0 == q.pid.0) (p.vpn.0 == q.vpn.0) e)

some_is : {A : Type 0} {x y : A} → Some x ≡ Some y → x ≡ y
some_is e = cc

-- ---- no page is valid

pub none_earlier : (counts : ℕ → ℕ) (stamps : Place → Option ℕ) → ((p : Place) → stamps p ≡ None) → AreTouchedBefore counts stamps
none_earlier counts stamps none = record { earlier = λ p stamp e. let bad : None ≡ Some stamp = sym (none p) ∙ e in cc }

pub no_ages_in : (counts : ℕ → ℕ) (stamps : Place → Option ℕ) → ((p : Place) → stamps p ≡ None) → age_by_stamp counts stamps ≡ (λ _. None)
no_ages_in counts stamps none = λ i. λ p. ap (option_map (age_by (counts p.pid.0))) (none p) i

-- ---- a page is mapped

module _ (counts : ℕ → ℕ) (stamps : Place → Option ℕ) (p : Place) where
  mapped_earlier : AreTouchedBefore counts stamps → (q : Place) (stamp : ℕ) (b : Bool) → same_place p q ≡ b
      → cond b (Some (counts p.pid.0)) (stamps q) ≡ Some stamp → stamp ≤ counts q.pid.0
  mapped_earlier old q stamp true e s =
      let there : counts p.pid.0 ≡ counts q.pid.0 = ap counts (same_pid p q e) in
      let it : counts p.pid.0 ≡ stamp = some_is s in
      omega (arith, there, it)
  mapped_earlier old q stamp false e s = old.earlier q stamp s

  mapped_age : (q : Place) (b : Bool) → same_place p q ≡ b
      → option_map (age_by (counts q.pid.0)) (cond b (Some (counts p.pid.0)) (stamps q)) ≡ cond b (Some 0) (age_by_stamp counts stamps q)
  mapped_age q true e =
      let there : counts p.pid.0 ≡ counts q.pid.0 = ap counts (same_pid p q e) in
      let none : min 7 (counts q.pid.0 - counts p.pid.0) ≡ 0 = omega (arith, there) in
      ap (λ (n : ℕ). Some n) none
  mapped_age q false e = refl

  unmapped_earlier : AreTouchedBefore counts stamps → (q : Place) (stamp : ℕ) (b : Bool)
      → cond b None (stamps q) ≡ Some stamp → stamp ≤ counts q.pid.0
  unmapped_earlier old q stamp true s = cc
  unmapped_earlier old q stamp false s = old.earlier q stamp s

  unmapped_age : (q : Place) (b : Bool) → option_map (age_by (counts q.pid.0)) (cond b None (stamps q)) ≡ cond b None (age_by_stamp counts stamps q)
  unmapped_age q true = refl
  unmapped_age q false = refl

pub earlier_mapped : (counts : ℕ → ℕ) (stamps new : Place → Option ℕ) (p : Place) (r : Result (Unit {0}) NoMemory)
    → OnOk r (new ≡ at_place p (Some (counts p.pid.0)) stamps) → OnErr r (new ≡ stamps)
    → AreTouchedBefore counts stamps → AreTouchedBefore counts new
earlier_mapped counts stamps new p (Ok u) e f old =
    subst (AreTouchedBefore counts) (sym e)
    (record { earlier = λ q stamp s. mapped_earlier counts stamps p old q stamp (same_place p q) refl s })
earlier_mapped counts stamps new p (Err n) e f old = subst (AreTouchedBefore counts) (sym f) old

pub age_mapped : (counts : ℕ → ℕ) (stamps new : Place → Option ℕ) (p : Place) (r : Result (Unit {0}) NoMemory)
    → OnOk r (new ≡ at_place p (Some (counts p.pid.0)) stamps)
    → OnOk r (age_by_stamp counts new ≡ at_place p (Some 0) (age_by_stamp counts stamps))
age_mapped counts stamps new p (Ok u) e =
    ap (age_by_stamp counts) e ∙ (λ i. λ q. mapped_age counts stamps p q (same_place p q) refl i)
age_mapped counts stamps new p (Err n) e = e

pub earlier_unmapped : (counts : ℕ → ℕ) (stamps new : Place → Option ℕ) (p : Place)
    → new ≡ at_place p None stamps → AreTouchedBefore counts stamps → AreTouchedBefore counts new
earlier_unmapped counts stamps new p e old =
    subst (AreTouchedBefore counts) (sym e)
    (record { earlier = λ q stamp s. unmapped_earlier counts stamps p old q stamp (same_place p q) s })

pub age_unmapped : (counts : ℕ → ℕ) (stamps new : Place → Option ℕ) (p : Place)
    → new ≡ at_place p None stamps → age_by_stamp counts new ≡ at_place p None (age_by_stamp counts stamps)
age_unmapped counts stamps new p e =
    ap (age_by_stamp counts) e ∙ (λ i. λ q. unmapped_age counts stamps p q (same_place p q) i)

-- ---- an `age` line

module _ (counts : ℕ → ℕ) (k : ℕ) where
  still_earlier : (n stamp : ℕ) (b : Bool) → stamp ≤ counts n → stamp ≤ cond b (counts n + 1) (counts n)
  still_earlier n stamp true h = omega (arith, h)
  still_earlier n stamp false h = h

  older_age : (n : ℕ) (b : Bool) (o : Option ℕ) → ((stamp : ℕ) → o ≡ Some stamp → stamp ≤ counts n)
      → option_map (age_by (cond b (counts n + 1) (counts n))) o
      ≡ cond b (option_map one_older (option_map (age_by (counts n)) o)) (option_map (age_by (counts n)) o)
  older_age n true None h = refl
  older_age n true (Some stamp) h =
      let one : min 7 (counts n + 1 - stamp) ≡ min 7 (min 7 (counts n - stamp) + 1) = omega (arith, h stamp refl) in
      ap (λ (m : ℕ). Some m) one
  older_age n false o h = refl

pub earlier_older : (xs ys : List ℕ) (stamps : Place → Option ℕ) (k : ℕ) (r : Result (Unit {0}) NoMemory)
    → OnOk r (slice_index ys ≡ one_age_more k (slice_index xs)) → OnErr r (ys ≡ xs)
    → AreTouchedBefore (slice_index xs) stamps → AreTouchedBefore (slice_index ys) stamps
earlier_older xs ys stamps k (Ok u) e f old =
    subst (λ (c : ℕ → ℕ). AreTouchedBefore c stamps) (sym e)
    (record { earlier = λ p stamp s. still_earlier (slice_index xs) k p.pid.0 stamp (p.pid.0 == k) (old.earlier p stamp s) })
earlier_older xs ys stamps k (Err n) e f old = subst (λ (c : List ℕ). AreTouchedBefore (slice_index c) stamps) (sym f) old

pub age_older : (xs ys : List ℕ) (stamps : Place → Option ℕ) (pid : Pid) (r : Result (Unit {0}) NoMemory)
    → OnOk r (slice_index ys ≡ one_age_more pid.0 (slice_index xs)) → AreTouchedBefore (slice_index xs) stamps
    → OnOk r (age_by_stamp (slice_index ys) stamps ≡ older_of pid (age_by_stamp (slice_index xs) stamps))
age_older xs ys stamps pid (Ok u) e old =
    ap (λ (c : ℕ → ℕ). age_by_stamp c stamps) e
    ∙ (λ i. λ p. older_age (slice_index xs) pid.0 p.pid.0 (p.pid.0 == pid.0) (stamps p) (old.earlier p) i)
age_older xs ys stamps pid (Err n) e old = e

-- ---- the count is at least the stamp, so an age is a difference

pub stamp_within : (counts : ℕ → ℕ) (stamps : Place → Option ℕ) (p : Place) (stamp : ℕ) → AreTouchedBefore counts stamps
    → stamps p ≡ Some stamp → stamp ≤ counts p.pid.0
stamp_within counts stamps p stamp old e = old.earlier p stamp e

pub ruleset aged = (none_earlier, no_ages_in, earlier_mapped, age_mapped, earlier_unmapped, age_unmapped, earlier_older, age_older, stamp_within)
