-- What the frames on each list hold, and on which list a page at rest is.
use Rattle.std.proofs.Common.{◌≡◌, ℕ, ◌<◌, ◌≤◌, Bool, true, false, cond, List, get_or, Option, Some, None, refl, sym, ap, ◌∙◌, inl, inr, arith}
use Rattle.std.specs.Prelude.{◌==◌, ◌&&◌, ◌||◌, slice_get, not, length, is_some}
use Rattle.std.specs.Cmp.{unsigned_Decides}
use Rattle.mm_types.specs.{Record}
use Rattle.mm_move_rules.specs.{blank, has_request, is_idle, is_on}
use Rattle.mm_page_lists.proofs.{place_of, same}
use Rattle.mm_page_lists.specs.{ListsOf, list_at, number_at}
use Rattle.mm_ram.specs.{page_at, zero_page}
use Rattle.mm_pfn_database.specs.{Standing, standing_at, list_for, AreFrames, is_kept, is_zero, IsAtRest}
use Rattle.mm_pfn_database.specs.declared.standing.Standing.TheVariants.{Zeroed, Free, Bound, Cleared, Taken}
use Rattle.mm_pfn_database.proofs.Placings.{used_if, used_low, used_bound, used_kept}
use Rattle.mm_pfn_database.proofs.OnePlace.{on_if, off_if}
use Rattle.mm_types.proofs.{parts, not_true, same_tests}

lower : (i j : ℕ) → Some i ≡ Some j → i < 2 → 2 ≤ j → ⊥
lower i j e low high = let one : i ≡ j = same i j e in omega arith

bound_rest : (idle c : Bool) (j : ℕ) → cond idle (Some (cond c 3 2)) None ≡ Some j → (idle ≡ true) × (cond c 3 2 ≡ j)
bound_rest true c j e = (refl, same (cond c 3 2) j e)
bound_rest false c j e = let bad : None ≡ Some j = e in cc

rest_of : (s : Standing) (r : Record) (j : ℕ) → 2 ≤ j → list_for s r ≡ Some j → (s ≡ Bound) × ((is_idle r ≡ true) × (cond r.changed 3 2 ≡ j))
rest_of Zeroed r j high e = absurd (lower 0 j e (omega arith) high)
rest_of Free r j high e = absurd (lower 1 j e (omega arith) high)
rest_of Bound r j high e = (refl, bound_rest (is_idle r) r.changed j e)
rest_of Cleared r j high e = let bad : None ≡ Some j = e in cc
rest_of Taken r j high e = let bad : None ≡ Some j = e in cc

high_list : (c : Bool) → 2 ≤ cond c 3 2
high_list true = omega arith
high_list false = omega arith

-- a bound frame is on neither zeroed nor free
pub bound_high : (r : Record) (j : ℕ) → list_for Bound r ≡ Some j → 2 ≤ j
bound_high r j e = omega (arith, high_list r.changed, (bound_rest (is_idle r) r.changed j e).1)

zeroed_is : (s : Standing) (r : Record) → list_for s r ≡ Some 0 → is_zero s ≡ true
zeroed_is Zeroed r e = refl
zeroed_is Free r e = absurd (omega (arith, same 1 0 e))
zeroed_is Bound r e = absurd (omega (arith, bound_high r 0 e))
zeroed_is Cleared r e = refl
zeroed_is Taken r e = let bad : None ≡ Some 0 = e in cc

abbrev list_number : Bool → ℕ
list_number c = cond c 3 2

changed_by : (c b : Bool) → list_number c ≡ list_number b → c ≡ b
changed_by true true e = refl
changed_by true false e = absurd (omega (arith, e))
changed_by false true e = absurd (omega (arith, e))
changed_by false false e = refl

owned_if : (o h z : Bool) → h ≡ false → (o || (h && z)) ≡ true → o ≡ true
owned_if true h z e t = refl
owned_if false true z e t = let bad : true ≡ false = e in cc
owned_if false false z e t = let bad : false ≡ true = t in cc

pub idle_if : (r : Record) → r.shares ≡ 0 → has_request r.request ≡ false → is_idle r ≡ true
idle_if r z h = ap (λ (n : ℕ). (n == 0) && not (has_request r.request)) z ∙ ap not h

-- a bound frame that is idle
idle_rests : (r : Record) (c : Bool) → is_kept r ≡ true → is_idle r ≡ true → r.changed ≡ c → IsAtRest c r
idle_rests r c kept idle same =
    let p = parts (r.shares == 0) (not (has_request r.request)) idle in
    let none : has_request r.request ≡ false = not_true (has_request r.request) (λ e. let bad : false ≡ true = sym (ap not e) ∙ p.1 in cc) in
    record {
      owned = owned_if (is_some r.owner) (has_request r.request) (r.shares == 0) none kept;
      unshared = (unsigned_Decides r.shares 0).0 p.0;
      no_request = none;
      same = same;
    }

pub on_place : (f : ℕ) (xs : List ℕ) → is_on f xs ≡ true → (k : ℕ) × (slice_get xs k ≡ Some f)
on_place f xs e = elim (place_of f xs) [
  | inl h ↦ h
  | inr none ↦ let bad : true ≡ false = sym e ∙ off_if f xs none in cc
]

module _ {records : List Record} {standing : List Standing} {lists : ListsOf} {bytes : List (Option (List ℕ))} (a : AreFrames records standing lists bytes) (f : ℕ) where
  pub on_low : (j k : ℕ) → number_at lists.lists j k ≡ Some f → f < length records
  on_low j k e = omega (arith, a.apart.below j k f e, a.numbers)

  pub low_blank : (j k : ℕ) → j < 2 → number_at lists.lists j k ≡ Some f → get_or records f blank ≡ blank
  low_blank j k low e =
      let r = get_or records f blank in
      (a.holds f (on_low j k e)).empty (λ b. absurd (omega (arith, low, bound_high r j (ap (λ (s : Standing). list_for s r) (sym b) ∙ a.listed.held j k f e))))

  pub zeroed_zero : (k : ℕ) → number_at lists.lists 0 k ≡ Some f → page_at bytes f ≡ Some zero_page
  zeroed_zero k e = (a.holds f (on_low 0 k e)).zero (zeroed_is (standing_at standing f) (get_or records f blank) (a.listed.held 0 k f e))

  pub listed_rests : (c : Bool) (k : ℕ) → number_at lists.lists (cond c 3 2) k ≡ Some f → IsAtRest c (get_or records f blank)
  listed_rests c k e =
      let r = get_or records f blank in
      let h = rest_of (standing_at standing f) r (cond c 3 2) (high_list c) (a.listed.held (cond c 3 2) k f e) in
      idle_rests r c ((a.holds f (on_low (cond c 3 2) k e)).kept h.0) h.1.0 (changed_by r.changed c h.1.1)

  pub rests_listed : (c : Bool) → IsAtRest c (get_or records f blank) → is_on f (list_at lists.lists (cond c 3 2)) ≡ true
  rests_listed c h =
      let r = get_or records f blank in
      let used = used_if (λ (q : Record). is_some q.owner) r refl h.owned in
      let at : list_for (standing_at standing f) r ≡ Some (cond c 3 2) =
      ap (λ (s : Standing). list_for s r) (used_bound a f used)
      ∙ ap (λ (b : Bool). cond b (Some (cond r.changed 3 2)) None) (idle_if r h.unshared h.no_request) ∙ ap (λ (b : Bool). Some (cond b 3 2)) h.same in
      let there = a.listed.there f (cond c 3 2) (used_low a f used) at in
      on_if f (list_at lists.lists (cond c 3 2)) there.0 there.1

  pub on_rests : (c : Bool) → is_on f (list_at lists.lists (cond c 3 2)) ≡ true → IsAtRest c (get_or records f blank)
  on_rests c e = let k = on_place f (list_at lists.lists (cond c 3 2)) e in listed_rests c k.0 k.1

  -- a frame is on modified exactly where it is idle and changed
  pub modified_is : (is_idle (get_or records f blank) && (get_or records f blank).changed) ≡ is_on f (list_at lists.lists 3)
  modified_is =
      let r = get_or records f blank in
      same_tests (is_idle r && r.changed) (is_on f (list_at lists.lists 3))
      (λ e.
      let p = parts (is_idle r) r.changed e in
      rests_listed true (idle_rests r true (used_kept a f (used_if (λ (q : Record). q.changed) r refl p.1)) p.0 p.1))
      (λ e.
      let rests = on_rests true e in
      ap (λ (b : Bool). b && r.changed) (idle_if r rests.unshared rests.no_request) ∙ rests.same)
