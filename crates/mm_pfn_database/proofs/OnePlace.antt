-- Each frame is at exactly one place.
use Rattle.std.proofs.Common.{◌≡◌, ◌≢◌, ℕ, zero, suc, ◌+◌, ◌<◌, Bool, true, false, List, [], ◌∷◌, length, get_or, Option, Some, None, refl, sym, ap, ◌∙◌, inl, inr, arith}
use Rattle.std.proofs.lemmas.Bool.Decides.{nat_tests}
use Rattle.std.specs.Prelude.{slice_get, nat_lt, ◌==◌, ◌||◌, ◌&&◌, not, if◌then◌else◌}
use Rattle.std.specs.Cmp.{unsigned_Decides}
use Rattle.mm_types.specs.{Record}
use Rattle.mm_types.proofs.{differ, or_right}
use Rattle.mm_move_rules.specs.{blank, has_request, is_on, is_active, is_in_transition}
use Rattle.mm_page_lists.specs.{ListsOf, list_at}
use Rattle.mm_page_lists.proofs.{same, place_of}
use Rattle.mm_pfn_database.specs.{Standing, standing_at, list_for, AreFrames, table_of, one_if, is_in_hand, places}
use Rattle.mm_pfn_database.specs.declared.standing.Standing.TheVariants.{Zeroed, Free, Bound, Cleared, Taken}

pub on_if : (f : ℕ) (xs : List ℕ) (k : ℕ) → slice_get xs k ≡ Some f → is_on f xs ≡ true
on_if f [] k e = let bad : None ≡ Some f = e in cc
on_if f (x ∷ xs) zero e = ap (λ (b : Bool). b || is_on f xs) ((unsigned_Decides x f).1 (same x f e))
on_if f (x ∷ xs) (suc k) e = or_right (x == f) (is_on f xs) (on_if f xs k e)

pub off_if : (f : ℕ) (xs : List ℕ) → ((k : ℕ) → slice_get xs k ≡ Some f → ⊥) → is_on f xs ≡ false
off_if f [] none = refl
off_if f (x ∷ xs) none = ap (λ (b : Bool). b || is_on f xs) (differ x f (λ e. none 0 (ap (λ (y : ℕ). Some y) e))) ∙ off_if f xs (λ k. none (suc k))

-- whether a frame of this list is on list j
abbrev on_list : ℕ → Option ℕ → Bool
on_list j None = false
on_list j (Some i) = i == j

on_list_none : (j : ℕ) (o : Option ℕ) → o ≢ Some j → on_list j o ≡ false
on_list_none j None d = refl
on_list_none j (Some i) d = differ i j (λ e. d (ap (λ (y : ℕ). Some y) e))

abbrev places_by : Option ℕ → Record → Standing → ℕ
places_by o r s =
    one_if (on_list 0 o) + one_if (on_list 1 o) + one_if (on_list 2 o) + one_if (on_list 3 o)
    + one_if (is_active r) + one_if (is_in_transition r) + one_if (is_in_hand s)

bound_places : (z h c : Bool) → (one_if (on_list 0 (if z && not h then Some (if c then 3 else 2) else None)) + one_if (on_list 1 (if z && not h then Some (if c then 3 else 2) else None)) + one_if (on_list 2 (if z && not h then Some (if c then 3 else 2) else None)) + one_if (on_list 3 (if z && not h then Some (if c then 3 else 2) else None)) + one_if (not z) + one_if (z && h) + 0) ≡ 1
bound_places true true c = refl
bound_places true false true = refl
bound_places true false false = refl
bound_places false h c = refl

shared_or_not : (n : ℕ) → nat_lt 0 n ≡ not (n == 0)
shared_or_not zero = refl
shared_or_not (suc n) =
    let some : nat_lt 0 (suc n) ≡ true = grind (arith, nat_tests) in
    some ∙ ap not (sym (differ (suc n) 0 (λ e. omega arith)))

bound_one : (r : Record) → places_by (list_for Bound r) r Bound ≡ 1
bound_one r =
    ap (λ (b : Bool). one_if (on_list 0 (list_for Bound r)) + one_if (on_list 1 (list_for Bound r)) + one_if (on_list 2 (list_for Bound r)) + one_if (on_list 3 (list_for Bound r)) + one_if b + one_if (is_in_transition r) + 0) (shared_or_not r.shares)
    ∙ bound_places (r.shares == 0) (has_request r.request) r.changed

one_by : (s : Standing) (r : Record) → (s ≢ Bound → r ≡ blank) → places_by (list_for s r) r s ≡ 1
one_by Zeroed r e = ap (λ (q : Record). places_by (Some 0) q Zeroed) (e (λ d. cc))
one_by Free r e = ap (λ (q : Record). places_by (Some 1) q Free) (e (λ d. cc))
one_by Bound r e = bound_one r
one_by Cleared r e = ap (λ (q : Record). places_by None q Cleared) (e (λ d. cc))
one_by Taken r e = ap (λ (q : Record). places_by None q Taken) (e (λ d. cc))

module _ {records : List Record} {standing : List Standing} {lists : ListsOf} {bytes : List (Option (List ℕ))} (a : AreFrames records standing lists bytes) (f : ℕ) (low : f < length records) where
  on_by : (j : ℕ) → is_on f (list_at lists.lists j) ≡ on_list j (list_for (standing_at standing f) (get_or records f blank))
  on_by j = elim (place_of f (list_at lists.lists j)) [
    | inl h ↦ on_if f (list_at lists.lists j) h.0 h.1 ∙ sym (ap (on_list j) (a.listed.held j h.0 f h.1) ∙ (unsigned_Decides j j).1 refl)
    | inr none ↦
        off_if f (list_at lists.lists j) none
        ∙ sym (on_list_none j (list_for (standing_at standing f) (get_or records f blank)) (λ e. let h = a.listed.there f j low e in none h.0 h.1))
  ]

  pub one_place : places (record { table = table_of records lists.lists; bytes = bytes; standing = standing }) f ≡ 1
  one_place =
      let r = get_or records f blank in
      let s = standing_at standing f in
      let zeroed = on_by 0 in
      let free = on_by 1 in
      let standby = on_by 2 in
      let modified = on_by 3 in
      let listed : places (record { table = table_of records lists.lists; bytes = bytes; standing = standing }) f ≡ places_by (list_for s r) r s =
      λ t. one_if (zeroed t) + one_if (free t) + one_if (standby t) + one_if (modified t) + one_if (is_active r) + one_if (is_in_transition r) + one_if (is_in_hand s) in
      listed ∙ one_by s r (a.holds f low).empty
