-- What a process shows after a change of pages, and that it is one again.
use Rattle.std.proofs.Common.{◌≡◌, ◌≢◌, ℕ, ◌+◌, ◌-◌, Bool, true, false, cond, Option, Some, None, refl, sym, ap, ◌∙◌, subst, inl, inr, ◌<◌, ◌≤◌}
use Rattle.std.proofs.Common.{arith}
use Rattle.std.specs.Prelude.{◌==◌, is_some, if◌then◌else◌, Result, Ok, Err, OnOk, OnErr, nat_le, nat_lt, option_map}
use Rattle.std.specs.Ordering.{nat_cmp}
use Rattle.std.specs.Cmp.{unsigned_Decides}
use Rattle.std.specs.FinMap.{FinMap}
use Rattle.mm_types.proofs.{get-insert, get-remove, len_more, len_less, differ, same_or_not, same, none_of}
use Rattle.mm_types.specs.{Range, holds_page, end_of_user_pages, Frame}
use Rattle.mm_working_sets.specs.{WorkingSetOf, AgesBy, older}
use Rattle.mm_page_tables.specs.{IsEntry, entry_word, Entry, entry_in, entry_or, bare, is_valid_entry, Reserves, reserved_word, bound_of, at_of}
use Rattle.mm_page_tables.specs.{resident_set, resident_by_numbers, EntryBecomes, Process, pages, Releases, IsKeptProcess, place_in_set, set_place}
use Rattle.mm_page_tables.proofs.EntryLemmas.{entry_again, zero_is_empty, no_set_place, plain_place}
use Rattle.std.proofs.lemmas.Bool.{and_parts, leb-true, ltb-true}
use Rattle.std.specs.FinMap as finite
use Rattle.mm_page_tables.specs.declared.layout.Entry.TheVariants as entry

-- what a test of two numbers chooses
pub by_test : {A : Type 0} (q k : ℕ) (F : Bool → A) (x : A) → (q ≡ k → x ≡ F true) → (q ≢ k → x ≡ F false) → x ≡ F (q == k)
by_test q k F x same other = elim (same_or_not q k) [
  | inl e ↦ same e ∙ sym (ap F ((unsigned_Decides q k).1 e))
  | inr d ↦ other d ∙ sym (ap F (differ q k d))
]

-- ---- finite maps

pub here : {X : Type 0} (m : FinMap nat_cmp X) (k : ℕ) (x : X) → finite.get (finite.insert m k x) k ≡ Some x
here m k x = get-insert m k x k ∙ ap (λ b. cond b (Some x) (finite.get m k)) ((unsigned_Decides k k).1 refl)

pub elsewhere : {X : Type 0} (m : FinMap nat_cmp X) (k : ℕ) (x : X) (q : ℕ) → q ≢ k → finite.get (finite.insert m k x) q ≡ finite.get m q
elsewhere m k x q other = get-insert m k x q ∙ ap (λ b. cond b (Some x) (finite.get m q)) (differ q k other)

pub gone : {X : Type 0} (m : FinMap nat_cmp X) (k : ℕ) → finite.get (finite.remove m k) k ≡ None
gone m k = get-remove m k k ∙ ap (λ b. cond b None (finite.get m k)) ((unsigned_Decides k k).1 refl)

pub left : {X : Type 0} (m : FinMap nat_cmp X) (k q : ℕ) → q ≢ k → finite.get (finite.remove m k) q ≡ finite.get m q
left m k q other = get-remove m k q ∙ ap (λ b. cond b None (finite.get m q)) (differ q k other)

-- ---- one word is set

bare_or_cond : (b : Bool) (w : ℕ) (o : Option ℕ) → bare (entry_or (cond b (Some w) o)) ≡ cond b (bare (entry_in w)) (bare (entry_or o))
bare_or_cond true w o = refl
bare_or_cond false w o = refl

at_set : (t : FinMap nat_cmp ℕ) (v : ℕ) (e : Entry) (q : ℕ) → IsEntry e
    → bare (entry_or (finite.get (finite.insert t v (entry_word e)) q)) ≡ (if q == v then bare e else bare (entry_or (finite.get t q)))
at_set t v e q is =
    ap (λ o. bare (entry_or o)) (get-insert t v (entry_word e) q)
    ∙ bare_or_cond (q == v) (entry_word e) (finite.get t q)
    ∙ ap (λ (x : Entry). cond (q == v) (bare x) (bare (entry_or (finite.get t q)))) (entry_again e is)

bound_cond : (b : Bool) (w : ℕ) (o : Option ℕ) → (b ≡ true → is_some o ≡ true) → is_some (cond b (Some w) o) ≡ is_some o
bound_cond true w o h = sym (h refl)
bound_cond false w o h = refl

bound_set : (t : FinMap nat_cmp ℕ) (v w q : ℕ) → is_some (finite.get t v) ≡ true → is_some (finite.get (finite.insert t v w) q) ≡ is_some (finite.get t q)
bound_set t v w q h = ap is_some (get-insert t v w q) ∙ bound_cond (q == v) w (finite.get t q) (λ e. subst (λ (k : ℕ). is_some (finite.get t k) ≡ true) (sym ((unsigned_Decides q v).0 e)) h)

pub becomes : (p q : Process) (v w : ℕ) (e : Entry) → q.table ≡ finite.insert p.table v w → w ≡ entry_word e → IsEntry e → bound_of p v ≡ true → q.is_open ≡ p.is_open
    → (d : Entry) → bare e ≡ d → EntryBecomes p q v d
becomes p q v w e te we fits bound same d be = record {
  at = λ k. ap (λ (t : FinMap nat_cmp ℕ). bare (entry_or (finite.get t k))) (te ∙ ap (finite.insert p.table v) we) ∙ at_set p.table v e k fits
      ∙ ap (λ (x : Entry). cond (k == v) x (at_of p k)) be;
  bound = λ k. ap (λ (t : FinMap nat_cmp ℕ). is_some (finite.get t k)) te ∙ bound_set p.table v w k bound;
  opened = same;
}

-- ---- the working set

pub resident_more : (s r : WorkingSetOf) (v m : ℕ) → r ≡ record s { ages = finite.insert s.ages v 0; places = finite.insert s.places m v } → finite.get s.places m ≡ None
    → resident_set r ≡ record { min = s.min; max = s.max; resident = finite.len s.places + 1 }
resident_more s r v m re vacant = ap resident_set re ∙ ap (λ (n : ℕ). resident_by_numbers s.min s.max n) (len_more s.places m v vacant)

pub resident_less : (s r : WorkingSetOf) (x m v : ℕ) → r ≡ record s { ages = finite.remove s.ages x; places = finite.remove s.places m } → finite.get s.places m ≡ Some v
    → resident_set r ≡ record { min = s.min; max = s.max; resident = finite.len s.places - 1 }
resident_less s r x m v re held = ap resident_set re ∙ ap (λ (n : ℕ). resident_by_numbers s.min s.max n) (len_less s.places m v held)

pub ages_more : (s r : WorkingSetOf) (v m : ℕ) → r ≡ record s { ages = finite.insert s.ages v 0; places = finite.insert s.places m v } → (q : ℕ)
    → finite.get r.ages q ≡ (if q == v then Some 0 else finite.get s.ages q)
ages_more s r v m re q = ap (λ (x : WorkingSetOf). finite.get x.ages q) re ∙ get-insert s.ages v 0 q

pub ages_less : (s r : WorkingSetOf) (v x m : ℕ) → r ≡ record s { ages = finite.remove s.ages x; places = finite.remove s.places m } → x ≡ v → (q : ℕ)
    → finite.get r.ages q ≡ (if q == v then None else finite.get s.ages q)
ages_less s r v x m re xv q = ap (λ (y : WorkingSetOf). finite.get y.ages q) re ∙ get-remove s.ages x q ∙ ap (λ (k : ℕ). cond (q == k) None (finite.get s.ages q)) xv

pub ages_touched : (s r : WorkingSetOf) (v : ℕ) → r ≡ record s { ages = finite.insert s.ages v 0 } → (q : ℕ) → finite.get r.ages q ≡ (if q == v then Some 0 else finite.get s.ages q)
ages_touched s r v re q = ap (λ (x : WorkingSetOf). finite.get x.ages q) re ∙ get-insert s.ages v 0 q

pub valid_bound : (w : Option ℕ) → is_valid_entry (bare (entry_or w)) ≡ true → is_some w ≡ true
valid_bound None h = cc
valid_bound (Some w) h = refl

-- ---- pages are bound or given up

entry_reserved : (o : Option ℕ) → entry_or (reserved_word o) ≡ entry_or o
entry_reserved None = zero_is_empty
entry_reserved (Some w) = refl

cond_reserved : (b : Bool) (o : Option ℕ) → entry_or (cond b (reserved_word o) o) ≡ entry_or o
cond_reserved true o = entry_reserved o
cond_reserved false o = refl

pub after_bind : {T E : Type 0} (res : Result T E) (t u : FinMap nat_cmp ℕ) (r : Range) → OnOk res (Reserves t u r) → OnErr res (u ≡ t) → (q : ℕ) → entry_or (finite.get u q) ≡ entry_or (finite.get t q)
after_bind (Ok x) t u r good bad q = ap entry_or (good q) ∙ cond_reserved (holds_page r q) (finite.get t q)
after_bind (Err e) t u r good bad q = ap (λ (m : FinMap nat_cmp ℕ). entry_or (finite.get m q)) bad

-- ---- a process is one again after each change

place_here : (t : FinMap nat_cmp ℕ) (v : ℕ) (e : Entry) → IsEntry e → place_in_set (finite.insert t v (entry_word e)) v ≡ set_place e
place_here t v e is = ap (λ o. set_place (entry_or o)) (here t v (entry_word e)) ∙ ap set_place (entry_again e is)

place_elsewhere : (t : FinMap nat_cmp ℕ) (v w q : ℕ) → q ≢ v → place_in_set (finite.insert t v w) q ≡ place_in_set t q
place_elsewhere t v w q other = ap (λ o. set_place (entry_or o)) (elsewhere t v w q other)

some_if : (b : Bool) (x y : ℕ) → cond b (Some x) None ≡ Some y → (b ≡ true) × (x ≡ y)
some_if true x y h = (refl, (let e : x ≡ y = cc in e))
some_if false x y h = cc

none_if : (b : Bool) (x y : ℕ) → cond b None (Some x) ≡ Some y → x ≡ y
none_if true x y h = cc
none_if false x y h = cc

both_some : (b : Bool) (x y : ℕ) → is_some (cond b (Some x) None) ≡ is_some (cond b (Some y) None)
both_some true x y = refl
both_some false x y = refl

-- only user pages have a word
abbrev OnlyUser : FinMap nat_cmp ℕ → Type 0
OnlyUser t = (page : ℕ) → is_some (finite.get t page) ≡ true → page < end_of_user_pages

user_set : (t : FinMap nat_cmp ℕ) (v w : ℕ) → OnlyUser t → is_some (finite.get t v) ≡ true → OnlyUser (finite.insert t v w)
user_set t v w user bound page some = elim (same_or_not page v) [
  | inl here ↦ omega (arith, user v bound, here)
  | inr differs ↦ user page (ap is_some (sym (elsewhere t v w page differs)) ∙ some)
]

range_parts : (first n q : ℕ) → holds_page (pages first n) q ≡ true → (first ≤ q) × (q < first + n)
range_parts first n q h = let b = and_parts (nat_le first q) (nat_lt q (first + n)) h in (leb-true first q b.0, ltb-true q (first + n) b.1)

-- after user pages were bound, or where memory was refused
pub user_bound : {T E : Type 0} (res : Result T E) (t u : FinMap nat_cmp ℕ) (first n : ℕ) → OnOk res (Reserves t u (pages first n)) → OnErr res (u ≡ t) → first + n ≤ end_of_user_pages → OnlyUser t → OnlyUser u
user_bound (Err e) t u first n good bad high user page some = user page (ap (λ (m : FinMap nat_cmp ℕ). is_some (finite.get m page)) (sym bad) ∙ some)
user_bound (Ok x) t u first n good bad high user page some = elim (holds_page (pages first n) page) as (λ b. holds_page (pages first n) page ≡ b → page < end_of_user_pages) [
  | true ↦ λ h. (let w = range_parts first n page h in omega (arith, w.1, high))
  | false ↦ λ h. user page (ap is_some (sym (good page ∙ ap (λ b. cond b (reserved_word (finite.get t page)) (finite.get t page)) h)) ∙ some)
] refl

module _ (t : FinMap nat_cmp ℕ) (s : WorkingSetOf) (o : Bool) (is : IsKeptProcess t s o) where
  never_closed : {A : Type 0} (v : ℕ) → is_some (finite.get t v) ≡ true → o ≡ false → A
  never_closed v bound nay = let bad : true ≡ false = sym bound ∙ ap is_some (is.closed nay v) in cc

  -- a process with a bound page is open, so its set has room
  pub reserved_of_bound : (v : ℕ) → is_some (finite.get t v) ≡ true → s.reserved ≡ true
  reserved_of_bound v bound = is.room ∙ elim o as (λ b. o ≡ b → b ≡ true) [ true ↦ λ e. refl | false ↦ λ e. never_closed v bound e ] refl

  -- each page names the place that it named
  pub same_places_kept : (u : FinMap nat_cmp ℕ) → ((page : ℕ) → place_in_set u page ≡ place_in_set t page) → (o ≡ false → (page : ℕ) → finite.get u page ≡ None) → OnlyUser u → IsKeptProcess u s o
  same_places_kept u stays closed user = record {
    named = λ page n h. is.named page n (sym (stays page) ∙ h);
    held = λ n page h. stays page ∙ is.held n page h;
    aged = λ page. is.aged page ∙ ap is_some (sym (stays page));
    young = is.young;
    within = is.within;
    room = is.room;
    closed = closed;
    user = user;
  }

  -- ---- an entry that is not valid becomes another that is not

  pub set_kept : (u : FinMap nat_cmp ℕ) (v w : ℕ) (e : Entry) → u ≡ finite.insert t v w → w ≡ entry_word e
      → is_some (finite.get t v) ≡ true → is_valid_entry (bare (entry_or (finite.get t v))) ≡ false → is_valid_entry e ≡ false → IsEntry e → IsKeptProcess u s o
  set_kept u v w e ue we bound invalid other fits = subst (λ (x : FinMap nat_cmp ℕ). IsKeptProcess x s o) (sym (ue ∙ ap (finite.insert t v) we)) (same_places_kept (finite.insert t v (entry_word e)) stays (never_closed v bound) (user_set t v (entry_word e) is.user bound))
    where
      stays : (page : ℕ) → place_in_set (finite.insert t v (entry_word e)) page ≡ place_in_set t page
      stays page = elim (same_or_not page v) [
        | inl e_is ↦ ap (place_in_set (finite.insert t v (entry_word e))) e_is ∙ place_here t v e fits ∙ plain_place e other ∙ sym (ap (place_in_set t) e_is ∙ no_set_place (entry_or (finite.get t v)) invalid)
        | inr differs ↦ place_elsewhere t v (entry_word e) page differs
      ]

  -- ---- pages are bound or given up

  pub bind_kept : (u : FinMap nat_cmp ℕ) → ((q : ℕ) → entry_or (finite.get u q) ≡ entry_or (finite.get t q)) → o ≡ true → OnlyUser u → IsKeptProcess u s o
  bind_kept u stays opened user = same_places_kept u (λ page. ap set_place (stays page)) (λ nay. (let bad : true ≡ false = sym opened ∙ nay in cc)) user

  -- no page of the range is valid
  abbrev NoneValid : ℕ → ℕ → Type 0
  NoneValid first n = (q : ℕ) → first ≤ q → q < first + n → is_valid_entry (bare (entry_or (finite.get t q))) ≡ false

  unbind_place : (u : FinMap nat_cmp ℕ) (first n : ℕ) → Releases t u (pages first n) → NoneValid first n → (q : ℕ) → place_in_set u q ≡ place_in_set t q
  unbind_place u first n rel invalid q = elim (holds_page (pages first n) q) as (λ b. holds_page (pages first n) q ≡ b → place_in_set u q ≡ place_in_set t q) [
    | true ↦ λ h. let w = range_parts first n q h in
        ap (λ r. set_place (entry_or r)) (rel q ∙ ap (λ b. cond b None (finite.get t q)) h) ∙ sym (no_set_place (entry_or (finite.get t q)) (invalid q w.0 w.1))
    | false ↦ λ h. ap (λ r. set_place (entry_or r)) (rel q ∙ ap (λ b. cond b None (finite.get t q)) h)
  ] refl

  gone_none : (b : Bool) (r : Option ℕ) → r ≡ None → cond b None r ≡ None
  gone_none true r h = refl
  gone_none false r h = h

  was_bound : (b : Bool) (r : Option ℕ) → is_some (cond b None r) ≡ true → is_some r ≡ true
  was_bound true r h = let bad : false ≡ true = h in cc
  was_bound false r h = h

  pub unbind_kept : (u : FinMap nat_cmp ℕ) (first n : ℕ) → Releases t u (pages first n) → NoneValid first n → IsKeptProcess u s o
  unbind_kept u first n rel invalid = same_places_kept u (unbind_place u first n rel invalid) (λ nay page. rel page ∙ gone_none (holds_page (pages first n) page) (finite.get t page) (is.closed nay page))
      (λ page some. is.user page (was_bound (holds_page (pages first n) page) (finite.get t page) (ap is_some (sym (rel page)) ∙ some)))

  -- ---- a page becomes valid at a vacant place, or is valid no more

  -- a page that is not valid has no age
  pub no_age : (v : ℕ) → is_valid_entry (bare (entry_or (finite.get t v))) ≡ false → finite.get s.ages v ≡ None
  no_age v invalid = none_of (finite.get s.ages v) (is.aged v ∙ ap is_some (no_set_place (entry_or (finite.get t v)) invalid))

  -- a page was used, or became valid
  young_new : (v page age : ℕ) → finite.get (finite.insert s.ages v 0) page ≡ Some age → age ≤ 7
  young_new v page age h = elim (same_or_not page v) [
    | inl e ↦
        let both : Some 0 ≡ Some age = sym (here s.ages v 0) ∙ ap (finite.get (finite.insert s.ages v 0)) (sym e) ∙ h in
        let zero_is : 0 ≡ age = cc in
        omega (arith, zero_is)
    | inr differs ↦ is.young page age (sym (elsewhere s.ages v 0 page differs) ∙ h)
  ]

  -- the page's entry is e then, which names the place or not, and so the place holds the page or not
  module _ (v m : ℕ) (e : Entry) (valid : Bool) (u : FinMap nat_cmp ℕ) (r : WorkingSetOf) (bound : is_some (finite.get t v) ≡ true) (ue : u ≡ finite.insert t v (entry_word e)) (fits : IsEntry e)
      (names : set_place e ≡ cond valid (Some m) None) (named : place_in_set t v ≡ cond valid None (Some m)) (held : finite.get s.places m ≡ cond valid None (Some v))
      (held_now : finite.get r.places m ≡ cond valid (Some v) None) (held_else : (n : ℕ) → n ≢ m → finite.get r.places n ≡ finite.get s.places n)
      (age_now : finite.get r.ages v ≡ cond valid (Some 0) None) (age_else : (q : ℕ) → q ≢ v → finite.get r.ages q ≡ finite.get s.ages q)
      (within : finite.len r.places ≤ r.max) (room : r.reserved ≡ s.reserved) where
    place_now : place_in_set u v ≡ cond valid (Some m) None
    place_now = ap (λ (x : FinMap nat_cmp ℕ). place_in_set x v) ue ∙ place_here t v e fits ∙ names

    place_else : (page : ℕ) → page ≢ v → place_in_set u page ≡ place_in_set t page
    place_else page differs = ap (λ (x : FinMap nat_cmp ℕ). place_in_set x page) ue ∙ place_elsewhere t v (entry_word e) page differs

    named_next : (page n : ℕ) → place_in_set u page ≡ Some n → finite.get r.places n ≡ Some page
    named_next page n h = elim (same_or_not page v) [
      | inl e_is ↦
          let now = some_if valid m n (sym place_now ∙ ap (place_in_set u) (sym e_is) ∙ h) in
          ap (finite.get r.places) (sym now.1) ∙ held_now ∙ ap (λ b. cond b (Some v) None) now.0 ∙ ap Some (sym e_is)
      | inr differs ↦
          let old = is.named page n (sym (place_else page differs) ∙ h) in
          held_else n (λ nm. differs (sym (none_if valid v page (sym held ∙ ap (finite.get s.places) (sym nm) ∙ old)))) ∙ old
    ]

    held_next : (n page : ℕ) → finite.get r.places n ≡ Some page → place_in_set u page ≡ Some n
    held_next n page h = elim (same_or_not n m) [
      | inl nm ↦
          let now = some_if valid v page (sym held_now ∙ ap (finite.get r.places) (sym nm) ∙ h) in
          ap (place_in_set u) (sym now.1) ∙ place_now ∙ ap (λ b. cond b (Some m) None) now.0 ∙ ap Some (sym nm)
      | inr differs ↦
          let old = is.held n page (sym (held_else n differs) ∙ h) in
          place_else page (λ pv. differs (sym (none_if valid m n (sym named ∙ ap (place_in_set t) (sym pv) ∙ old)))) ∙ old
    ]

    aged_next : (page : ℕ) → is_some (finite.get r.ages page) ≡ is_some (place_in_set u page)
    aged_next page = elim (same_or_not page v) [
      | inl e_is ↦ ap (λ k. is_some (finite.get r.ages k)) e_is ∙ ap is_some age_now ∙ both_some valid 0 m ∙ sym (ap (λ k. is_some (place_in_set u k)) e_is ∙ ap is_some place_now)
      | inr differs ↦ ap is_some (age_else page differs) ∙ is.aged page ∙ ap is_some (sym (place_else page differs))
    ]

    young_next : (page age : ℕ) → finite.get r.ages page ≡ Some age → age ≤ 7
    young_next page age h = elim (same_or_not page v) [
      | inl e_is ↦ let zero_is = (some_if valid 0 age (sym age_now ∙ ap (finite.get r.ages) (sym e_is) ∙ h)).1 in omega (arith, zero_is)
      | inr differs ↦ is.young page age (sym (age_else page differs) ∙ h)
    ]

    pub process_next : IsKeptProcess u r o
    process_next = record {
      named = named_next;
      held = held_next;
      aged = aged_next;
      young = young_next;
      within = within;
      room = room ∙ is.room;
      closed = never_closed {A = (page : ℕ) → finite.get u page ≡ None} v bound;
      user = subst (λ (x : FinMap nat_cmp ℕ). OnlyUser x) (sym ue) (user_set t v (entry_word e) is.user bound);
    }

  -- ---- ages alone change

  pub touched_kept : (v m : ℕ) → place_in_set t v ≡ Some m → (r : WorkingSetOf) → r ≡ record s { ages = finite.insert s.ages v 0 } → IsKeptProcess t r o
  touched_kept v m valid r re = subst (λ (x : WorkingSetOf). IsKeptProcess t x o) (sym re) (assumption (is, aged, young_new v))
    where
      aged : (page : ℕ) → is_some (finite.get (finite.insert s.ages v 0) page) ≡ is_some (place_in_set t page)
      aged page = elim (same_or_not page v) [
        | inl e ↦ ap (λ k. is_some (finite.get (finite.insert s.ages v 0) k)) e ∙ ap is_some (here s.ages v 0) ∙ sym (ap (λ k. is_some (place_in_set t k)) e ∙ ap is_some valid)
        | inr differs ↦ ap is_some (elsewhere s.ages v 0 page differs) ∙ is.aged page
      ]

  same_kind : (a : Option ℕ) → is_some (option_map older a) ≡ is_some a
  same_kind None = refl
  same_kind (Some x) = refl

  still_young : (a : Option ℕ) (age : ℕ) → option_map older a ≡ Some age → age ≤ 7
  still_young None age h = cc
  still_young (Some x) age h = let e : older x ≡ age = cc in omega (arith, e)

  pub older_kept : (r : WorkingSetOf) → r ≡ record s { ages = r.ages } → AgesBy older s.ages r.ages → IsKeptProcess t r o
  older_kept r re by = subst (λ (x : WorkingSetOf). IsKeptProcess t x o) (sym re) (assumption (
    is,
    λ (page : ℕ). ap is_some (by page) ∙ same_kind (finite.get s.ages page) ∙ is.aged page,
    λ (page age : ℕ) (h : finite.get r.ages page ≡ Some age). still_young (finite.get s.ages page) age (sym (by page) ∙ h),
  ))

  -- ---- a process is opened or closed

  module _ (none : (page : ℕ) → is_some (finite.get t page) ≡ false) where
    pub no_word : (page : ℕ) → finite.get t page ≡ None
    no_word page = none_of (finite.get t page) (none page)

    no_place : (n : ℕ) → finite.get s.places n ≡ None
    no_place n = elim (finite.get s.places n) as (λ a. finite.get s.places n ≡ a → a ≡ None) [
      | None ↦ λ h. refl
      | Some page ↦ λ h. let bad : None ≡ Some n = sym (ap (λ r. set_place (entry_or r)) (no_word page)) ∙ is.held n page h in cc
    ] refl

    -- so its working set has no page
    pub none_resident : finite.len s.places ≡ 0
    none_resident = ap finite.len (same s.places finite.empty (λ n. no_place n ∙ sym (finite.get-empty nat_cmp n))) ∙ finite.len-empty nat_cmp ℕ

    pub close_kept : (r : WorkingSetOf) → r ≡ record s { reserved = false } → IsKeptProcess t r false
    close_kept r re = subst (λ (x : WorkingSetOf). IsKeptProcess t x false) (sym re) (assumption (is, no_word, refl))

-- ---- as the calls below say it

pub more_kept : (t u : FinMap nat_cmp ℕ) (s r : WorkingSetOf) (o : Bool) (v w : ℕ) (f : Frame) (m : ℕ) → u ≡ finite.insert t v w → w ≡ entry_word (entry.Valid f m)
    → r ≡ record s { ages = finite.insert s.ages v 0; places = finite.insert s.places m v } → finite.get s.places m ≡ None → finite.len s.places < s.max
    → IsKeptProcess t s o → is_some (finite.get t v) ≡ true → is_valid_entry (bare (entry_or (finite.get t v))) ≡ false → IsEntry (entry.Valid f m) → IsKeptProcess u r o
more_kept t u s r o v w f m ue we re vacant few is bound invalid fits =
    let within : finite.len (finite.insert s.places m v) ≤ s.max = omega (arith, few, len_more s.places m v vacant) in
    process_next t s o is v m (entry.Valid f m) true u r bound (ue ∙ ap (finite.insert t v) we) fits refl (no_set_place (entry_or (finite.get t v)) invalid) vacant
    (ap (λ (x : WorkingSetOf). finite.get x.places m) re ∙ here s.places m v) (λ n d. ap (λ (x : WorkingSetOf). finite.get x.places n) re ∙ elsewhere s.places m v n d)
    (ap (λ (x : WorkingSetOf). finite.get x.ages v) re ∙ here s.ages v 0) (λ q d. ap (λ (x : WorkingSetOf). finite.get x.ages q) re ∙ elsewhere s.ages v 0 q d)
    (subst (λ (x : WorkingSetOf). finite.len x.places ≤ x.max) (sym re) within) (ap (λ (x : WorkingSetOf). x.reserved) re)

pub less_kept : (t u : FinMap nat_cmp ℕ) (s r : WorkingSetOf) (o : Bool) (v w : ℕ) (e : Entry) (m x : ℕ) → u ≡ finite.insert t v w → w ≡ entry_word e
    → r ≡ record s { ages = finite.remove s.ages x; places = finite.remove s.places m } → x ≡ v
    → IsKeptProcess t s o → is_some (finite.get t v) ≡ true → place_in_set t v ≡ Some m → is_valid_entry e ≡ false → IsEntry e → IsKeptProcess u r o
less_kept t u s r o v w e m x ue we re xv is bound valid other fits =
    let held = is.named v m valid in
    let within : finite.len (finite.remove s.places m) ≤ s.max = omega (arith, is.within, len_less s.places m v held) in
    let now : r ≡ record s { ages = finite.remove s.ages v; places = finite.remove s.places m } = re ∙ ap (λ k. record s { ages = finite.remove s.ages k; places = finite.remove s.places m }) xv in
    process_next t s o is v m e false u r bound (ue ∙ ap (finite.insert t v) we) fits (plain_place e other) valid held
    (ap (λ (y : WorkingSetOf). finite.get y.places m) now ∙ gone s.places m) (λ n d. ap (λ (y : WorkingSetOf). finite.get y.places n) now ∙ left s.places m n d)
    (ap (λ (y : WorkingSetOf). finite.get y.ages v) now ∙ gone s.ages v) (λ q d. ap (λ (y : WorkingSetOf). finite.get y.ages q) now ∙ left s.ages v q d)
    (subst (λ (y : WorkingSetOf). finite.len y.places ≤ y.max) (sym now) within) (ap (λ (y : WorkingSetOf). y.reserved) now)

pub place_of_valid : (t : FinMap nat_cmp ℕ) (v : ℕ) (f : Frame) (m : ℕ) → entry.Valid f m ≡ entry_or (finite.get t v) → place_in_set t v ≡ Some m
place_of_valid t v f m h = sym (ap set_place h)

pub set_held : (t : FinMap nat_cmp ℕ) (s : WorkingSetOf) (o : Bool) (v : ℕ) (f : Frame) (m : ℕ) → IsKeptProcess t s o → entry.Valid f m ≡ entry_or (finite.get t v) → finite.get s.places m ≡ Some v
set_held t s o v f m is h = is.named v m (place_of_valid t v f m h)

-- the page that the set gave up at the place that a word names is the word's own
pub removed_page : (t : FinMap nat_cmp ℕ) (s : WorkingSetOf) (o : Bool) (v : ℕ) (f : Frame) (m x : ℕ) → IsKeptProcess t s o → entry.Valid f m ≡ entry_or (finite.get t v) → finite.get s.places m ≡ Some x → x ≡ v
removed_page t s o v f m x is h there = let both : Some x ≡ Some v = sym there ∙ set_held t s o v f m is h in cc

no_none : (n page : ℕ) → finite.get (finite.empty {X = ℕ} {R = nat_cmp}) n ≡ Some page → ⊥
no_none n page h = let bad : None ≡ Some page = sym (finite.get-empty nat_cmp n) ∙ h in cc

empty_place : (page : ℕ) → place_in_set finite.empty page ≡ None
empty_place page = ap (λ o. set_place (entry_or o)) (finite.get-empty nat_cmp page)

-- a process begins closed, without a page
pub begin_kept : (t : FinMap nat_cmp ℕ) (s : WorkingSetOf) (min max : ℕ) → t ≡ finite.empty → s ≡ record { min = min; max = max; reserved = false; ages = finite.empty; places = finite.empty } → IsKeptProcess t s false
begin_kept t s min max te se = subst (λ (x : FinMap nat_cmp ℕ). IsKeptProcess x s false) (sym te) (subst (λ (x : WorkingSetOf). IsKeptProcess finite.empty x false) (sym se) (record {
  named = λ page n h. (let bad : None ≡ Some n = sym (empty_place page) ∙ h in cc);
  held = λ n page h. absurd (no_none n page h);
  aged = λ page. ap is_some (finite.get-empty nat_cmp page) ∙ sym (ap is_some (empty_place page));
  young = λ page age h. absurd (no_none page age h);
  within = omega (arith, finite.len-empty nat_cmp ℕ);
  room = refl;
  closed = λ _ page. finite.get-empty nat_cmp page;
  user = λ page some. (let bad : false ≡ true = sym (ap is_some (finite.get-empty nat_cmp page)) ∙ some in cc);
}))
