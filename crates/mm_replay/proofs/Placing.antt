-- The list of each frame, as one frame leaves its list, changes or goes to one.
use Rattle.std.proofs.Common.{◌≡◌, ◌≢◌, ℕ, zero, suc, ◌<◌, ◌≤◌, Bool, true, false, List, [], ◌∷◌, ◌++◌, length, set, map, Option, Some, None, refl, sym, ap, ◌∙◌, inl, inr, arith, length-set, get_or-set_other}
use Rattle.std.specs.Prelude.{slice_get, ◌==◌, ◌&&◌, ◌||◌, not, nat_lt, is_some, if◌then◌else◌}
use Rattle.std.specs.Cmp.{unsigned_Decides}
use Rattle.std.proofs.lemmas.Bool.{and_parts, cases_lt, not-true}
use Rattle.std.proofs.lemmas.List.{get_or_past}
use Rattle.mm_types.specs.{Key, Record}
use Rattle.mm_types.proofs.{or_right, same_or_not, same_tests, differ}
use Rattle.mm_move_rules.specs.{blank, is_idle, has_request, is_read, is_first, is_empty, is_on, off_lists}
use Rattle.mm_page_lists.specs.{ListsOf, IsOnOne, list_at, number_at, with_list, without}
use Rattle.mm_page_lists.proofs.{without_other, without_removes, list-without, push_found, push_keeps, push_new}
use Rattle.mm_replay.specs.{AreLists, table_from_lists, record_of, belongs, is_owned, is_changed_page, Kept, Off, IsEmptyFrame}
use Rattle.mm_replay.specs.Sound.{Listed}

-- ---- where a record belongs

-- a record belongs somewhere only where it is idle
pub belongs_idle : (r : Record) (j : ℕ) → belongs r j ≡ true → is_idle r ≡ true
belongs_idle r j e = (and_parts (is_idle r) (if is_some r.owner then (j == (if r.changed then 3 else 2)) else nat_lt j 2) e).0

idle_owned : (o z h : Bool) → (z && h) ≡ true → (o || z) ≡ true
idle_owned true z h e = refl
idle_owned false true h e = refl
idle_owned false false h e = let bad : false ≡ true = e in cc

pub belongs_owned : (r : Record) (j : ℕ) → belongs r j ≡ true → is_owned r ≡ true
belongs_owned r j e = idle_owned (is_some r.owner && not (is_read r.request)) (r.shares == 0) (not (has_request r.request)) (belongs_idle r j e)

-- of a frame that is free: it may be zeroed
zeroed_of : (idle owned changed : Bool) → (idle && (if owned then (1 == (if changed then 3 else 2)) else nat_lt 1 2)) ≡ true → (idle && (if owned then (0 == (if changed then 3 else 2)) else nat_lt 0 2)) ≡ true
zeroed_of true true true e = let bad : false ≡ true = e in cc
zeroed_of true true false e = let bad : false ≡ true = e in cc
zeroed_of true false c e = refl
zeroed_of false o c e = let bad : false ≡ true = e in cc

pub belongs_zeroed : (r : Record) → belongs r 1 ≡ true → belongs r 0 ≡ true
belongs_zeroed r e = zeroed_of (is_idle r) (is_some r.owner) r.changed e

-- an owned frame belongs to neither of the first two lists
not_first : (idle changed : Bool) (j : ℕ) → j < 2 → (idle && (j == (if changed then 3 else 2))) ≡ true → ⊥
not_first false c j low e = let bad : false ≡ true = e in cc
not_first true true j low e = let same : j ≡ 3 = (unsigned_Decides j 3).0 e in omega arith
not_first true false j low e = let same : j ≡ 2 = (unsigned_Decides j 2).0 e in omega arith

owned_not_low : (r : Record) (j : ℕ) → is_some r.owner ≡ true → j < 2 → belongs r j ≡ true → ⊥
owned_not_low r j owned low e =
    not_first (is_idle r) r.changed j low
    (ap (λ (b : Bool). is_idle r && (if b then (j == (if r.changed then 3 else 2)) else nat_lt j 2)) (sym owned) ∙ e)

-- ---- frames and lists

module _ (records : List Record) (v : ListsOf) (f : ℕ) where
  -- what the record of no frame does not show
  there_is : (P : Record → Bool) → P blank ≡ false → P (record_of records f) ≡ true → f < length records
  there_is P absent holds = elim (cases_lt f (length records)) [
    | inl h ↦ h
    | inr h ↦ let bad : true ≡ false = sym holds ∙ ap P (get_or_past records f blank h) ∙ absent in cc
  ]

  pub busy_off : Kept records v → is_idle (record_of records f) ≡ false → Off records v f
  busy_off k busy = record {
    numbers = k.numbers;
    lists = k.lists;
    low = there_is (λ r. not (is_idle r)) refl (ap not busy);
    off = λ j m e. let bad : true ≡ false = sym (belongs_idle (record_of records f) j (k.listed j m f e)) ∙ busy in cc;
    listed = k.listed;
    there = λ g d low idle. k.there g low idle;
    owned = λ g d. k.owned g;
  }

  pub off_left : Kept records v → is_some (record_of records f).owner ≡ true → AreLists 4 (record v { lists = map (without f) v.lists }) → Off records (record v { lists = map (without f) v.lists }) f
  off_left k owned four =
      let r = without_removes f v.lists in
      record {
        numbers = k.numbers;
        lists = four;
        low = there_is (λ r. is_some r.owner) refl owned;
        off = λ j m e. (r.gone j m f e).0 refl;
        listed = λ j m g e. let h = (r.gone j m g e).1 in k.listed j h.0 g h.1;
        there = λ g d low idle. let h = k.there g low idle in let m = r.kept h.0 h.1 g d h.2 in (h.0, m.0, m.1);
        owned = λ g d. k.owned g;
      }

  pub idle_on_one : Kept records v → is_some (record_of records f).owner ≡ true → is_idle (record_of records f) ≡ true → IsOnOne v.lists f
  idle_on_one k owned idle = k.there f (there_is (λ r. is_some r.owner) refl owned) idle

  pub off_set : (r : Record) → Off records v f → Off (set records f r) v f
  off_set r o = record {
    numbers = o.numbers ∙ sym (length-set records f r);
    lists = o.lists;
    low = omega (arith, o.low, length-set records f r);
    off = o.off;
    listed = λ j m g e.
        let d : g ≢ f = λ s. o.off j m (e ∙ ap (λ (q : ℕ). Some q) s) in
        ap (λ (q : Record). belongs q j) (get_or-set_other records f g r blank d) ∙ o.listed j m g e;
    there = λ g d low idle.
        o.there g d (omega (arith, low, length-set records f r)) (ap is_idle (sym (get_or-set_other records f g r blank d)) ∙ idle);
    owned = λ g d. ap is_owned (get_or-set_other records f g r blank d) ∙ o.owned g d;
  }

  pub busy_kept : Off records v f → is_idle (record_of records f) ≡ false → is_owned (record_of records f) ≡ true → Kept records v
  busy_kept o busy held = record {
    numbers = o.numbers;
    lists = o.lists;
    listed = o.listed;
    there = λ g low idle. elim (same_or_not g f) [
      | inl s ↦ let bad : true ≡ false = sym idle ∙ ap (λ (q : ℕ). is_idle (record_of records q)) s ∙ busy in cc
      | inr d ↦ o.there g d low idle
    ];
    owned = λ g. elim (same_or_not g f) [
      | inl s ↦ ap (λ (q : ℕ). is_owned (record_of records q)) s ∙ held
      | inr d ↦ o.owned g d
    ];
  }

  pub put_kept : (i : ℕ) → Off records v f → i < 4 → belongs (record_of records f) i ≡ true → AreLists 4 (with_list v i (list_at v.lists i ++ f ∷ [])) → Kept records (with_list v i (list_at v.lists i ++ f ∷ []))
  put_kept i o inside here four =
      let within : i < length v.lists = omega (arith, inside, o.lists.counted) in
      record {
        numbers = o.numbers;
        lists = four;
        listed = λ j m g e. elim (push_found v.lists i f within j m g e) [
          | inl h ↦ ap (λ (q : ℕ). belongs (record_of records q) j) h.1 ∙ ap (λ (q : ℕ). belongs (record_of records f) q) h.0 ∙ here
          | inr h ↦ o.listed j m g h
        ];
        there = λ g low idle. elim (same_or_not g f) [
          | inl s ↦ (i, length (list_at v.lists i), push_new v.lists i f within ∙ ap (λ (q : ℕ). Some q) (sym s))
          | inr d ↦ let h = o.there g d low idle in (h.0, h.1, push_keeps v.lists i f within h.0 h.1 g h.2)
        ];
        owned = λ g. elim (same_or_not g f) [
          | inl s ↦ ap (λ (q : ℕ). is_owned (record_of records q)) s ∙ belongs_owned (record_of records f) i here
          | inr d ↦ o.owned g d
        ];
      }

  -- ---- the tables that these show

  -- the frame leaves standby and modified alone: it is on neither of the first two
  pub table_left : Kept records v → is_some (record_of records f).owner ≡ true → table_from_lists records (record v { lists = map (without f) v.lists }) ≡ off_lists (table_from_lists records v) f
  table_left k owned =
      let kept : (j : ℕ) → j < 2 → list_at (map (without f) v.lists) j ≡ list_at v.lists j = λ j low.
      list-without f v.lists j ∙ without_other f (list_at v.lists j) (λ m e. owned_not_low (record_of records f) j owned low (k.listed j m f e)) in
      let z = kept 0 (omega arith) in
      let e = kept 1 (omega arith) in
      let s = list-without f v.lists 2 in
      let m = list-without f v.lists 3 in
      λ t. record { records = records; zeroed = z t; free = e t; standby = s t; modified = m t }

  pub table_stays : Off records v f → table_from_lists records v ≡ off_lists (table_from_lists records v) f
  table_stays o =
      let s = sym (without_other f (list_at v.lists 2) (o.off 2)) in
      let m = sym (without_other f (list_at v.lists 3) (o.off 3)) in
      λ t. record { records = records; zeroed = list_at v.lists 0; free = list_at v.lists 1; standby = s t; modified = m t }

-- ---- looking

pub first_at : (f : ℕ) (xs : List ℕ) → is_first f xs ≡ true → slice_get xs 0 ≡ Some f
first_at f [] e = let bad : false ≡ true = e in cc
first_at f (x ∷ xs) e = ap (λ (q : ℕ). Some q) ((unsigned_Decides x f).0 e)

pub first_none : (f : ℕ) (xs : List ℕ) → slice_get xs 0 ≡ None → is_first f xs ≡ false
first_none f [] e = refl
first_none f (x ∷ xs) e = let bad : Some x ≡ None = e in cc

pub first_some : (f x : ℕ) (xs : List ℕ) → slice_get xs 0 ≡ Some x → is_first f xs ≡ (x == f)
first_some f x [] e = let bad : None ≡ Some x = e in cc
first_some f x (y ∷ xs) e = let s : y ≡ x = cc in ap (λ (q : ℕ). q == f) s

pub empty_none : (xs : List ℕ) → slice_get xs 0 ≡ None → is_empty xs ≡ true
empty_none [] e = refl
empty_none (x ∷ xs) e = let bad : Some x ≡ None = e in cc

pub empty_some : (x : ℕ) (xs : List ℕ) → slice_get xs 0 ≡ Some x → is_empty xs ≡ false
empty_some x [] e = let bad : None ≡ Some x = e in cc
empty_some x (y ∷ xs) e = refl

pub on_there : (f k : ℕ) (xs : List ℕ) → slice_get xs k ≡ Some f → is_on f xs ≡ true
on_there f k [] e = let bad : None ≡ Some f = e in cc
on_there f zero (x ∷ xs) e = let s : x ≡ f = cc in ap (λ (b : Bool). b || is_on f xs) ((unsigned_Decides x f).1 s)
on_there f (suc k) (x ∷ xs) e = or_right (x == f) (is_on f xs) (on_there f k xs e)

found : (f : ℕ) (xs : List ℕ) → is_on f xs ≡ true → (k : ℕ) × (slice_get xs k ≡ Some f)
found f [] e = let bad : false ≡ true = e in cc
found f (x ∷ xs) e = elim (same_or_not x f) [
  | inl s ↦ (0, ap (λ (q : ℕ). Some q) s)
  | inr d ↦ let h = found f xs (ap (λ (b : Bool). b || is_on f xs) (sym (differ x f d)) ∙ e) in (suc h.0, h.1)
]

-- of a frame whose owner, sharing and change are known
both : (idle owned changed : Bool) (j : ℕ) → (idle && (if owned then (j == (if changed then 3 else 2)) else nat_lt j 2)) ≡ true → owned ≡ true → changed ≡ true → j ≡ 3
both true true true j e a b = (unsigned_Decides j 3).0 e
both true true false j e a b = let bad : false ≡ true = b in cc
both true false c j e a b = let bad : false ≡ true = a in cc
both false o c j e a b = let bad : false ≡ true = e in cc

at_three : (idle owned changed : Bool) → (idle && (if owned then (3 == (if changed then 3 else 2)) else nat_lt 3 2)) ≡ true → ((owned && idle) && changed) ≡ true
at_three true true true e = refl
at_three true true false e = let bad : false ≡ true = e in cc
at_three true false c e = let bad : false ≡ true = e in cc
at_three false o c e = let bad : false ≡ true = e in cc

module _ (records : List Record) (v : ListsOf) (f : ℕ) (k : Kept records v) where
  modified_true : is_some (record_of records f).owner ≡ true → is_idle (record_of records f) ≡ true → (record_of records f).changed ≡ true → is_on f (list_at v.lists 3) ≡ true
  modified_true owned idle changed =
      let h = idle_on_one records v f k owned idle in
      let three : h.0 ≡ 3 = both (is_idle (record_of records f)) (is_some (record_of records f).owner) (record_of records f).changed h.0 (k.listed h.0 h.1 f h.2) owned changed in
      on_there f h.1 (list_at v.lists 3) (ap (λ (q : ℕ). number_at v.lists q h.1) (sym three) ∙ h.2)

  -- a frame is on the modified list exactly where its record says so
  pub modified_here : is_changed_page (record_of records f) ≡ is_on f (list_at v.lists 3)
  modified_here =
      let r = record_of records f in
      same_tests (is_changed_page r) (is_on f (list_at v.lists 3))
      (λ e.
      let p = and_parts (is_some r.owner && is_idle r) r.changed e in
      let q = and_parts (is_some r.owner) (is_idle r) p.0 in
      modified_true q.0 q.1 p.1)
      (λ on.
      let h = found f (list_at v.lists 3) on in
      at_three (is_idle r) (is_some r.owner) r.changed (k.listed 3 h.0 f h.1))

-- ---- what the lists say of the records

pub idle_alone : (r : Record) → is_idle r ≡ true → r.shares ≡ 0
idle_alone r e = (unsigned_Decides r.shares 0).0 (and_parts (r.shares == 0) (not (has_request r.request)) e).0

pub idle_quiet : (r : Record) → is_idle r ≡ true → has_request r.request ≡ false
idle_quiet r e = not-true (has_request r.request) (and_parts (r.shares == 0) (not (has_request r.request)) e).1

nobody : (o : Option Key) → (is_some o ≡ true → ⊥) → o ≡ None
nobody None h = refl
nobody (Some k) h = absurd (h refl)

pub listed_of : (records : List Record) (v : ListsOf) → Kept records v → Listed (table_from_lists records v)
listed_of records v k = record {
  zeroed = λ f e. empty f 0 (omega arith) (first_at f (list_at v.lists 0) e);
  free = λ f e. empty f 1 (omega arith) (first_at f (list_at v.lists 1) e);
  standby = λ f e. belongs_idle (record_of records f) 2 (k.listed 2 0 f (first_at f (list_at v.lists 2) e));
  modified = λ f e. let h = found f (list_at v.lists 3) e in belongs_idle (record_of records f) 3 (k.listed 3 h.0 f h.1);
  owned = k.owned;
}
  where
    empty : (f j : ℕ) → j < 2 → number_at v.lists j 0 ≡ Some f → IsEmptyFrame (table_from_lists records v) f
    empty f j low first =
        let here = k.listed j 0 f first in
        record {
          low = omega (arith, k.lists.apart.below j 0 f first, k.numbers);
          owner = nobody (record_of records f).owner (λ o. owned_not_low (record_of records f) j o low here);
          shares = idle_alone (record_of records f) (belongs_idle (record_of records f) j here);
          quiet = idle_quiet (record_of records f) (belongs_idle (record_of records f) j here);
        }

-- ---- records that are no longer read

pub owned_by : (r : Record) → is_some r.owner ≡ true → is_read r.request ≡ false → is_owned r ≡ true
owned_by r o q = ap (λ (b : Bool). (b && not (is_read r.request)) || (r.shares == 0)) o ∙ ap (λ (b : Bool). not b || (r.shares == 0)) q

pub shared_parts : (r : Record) → is_owned r ≡ true → 1 ≤ r.shares → (is_some r.owner ≡ true) × (is_read r.request ≡ false)
shared_parts r o n = by_tests (is_some r.owner) (is_read r.request) (r.shares == 0) o (differ r.shares 0 (λ e. omega (arith, e, n)))
  where
    by_tests : (a b c : Bool) → ((a && not b) || c) ≡ true → c ≡ false → (a ≡ true) × (b ≡ false)
    by_tests true true c e f = let bad : true ≡ false = sym e ∙ f in cc
    by_tests true false c e f = (refl, refl)
    by_tests false b c e f = let bad : true ≡ false = sym e ∙ f in cc

pub ruleset placing = (listed_of, owned_by, shared_parts, busy_off, first_at, first_none, first_some, empty_none, empty_some, belongs_zeroed)
