-- Keys that are added or removed one after another: of a range, of a process, of an area.
use Rattle.std.proofs.Common.{◌≡◌, ℕ, ◌+◌, Bool, true, false, Option, Some, None, refl, sym, ◌∙◌, ap, cond, arith, is_some, not, ◌&&◌, unwrap_or, zero, suc, ◌≤◌, ◌<◌, List, subst, ◌||◌, inl, inr, ◌-◌, [], ◌∷◌, length, count_by}
use Rattle.std.specs.Prelude.{◌==◌, Result, Ok, Err, OnErr}
use Rattle.std.specs.Cmp.{unsigned_Decides}
use Rattle.std.proofs.Math.Path.{fun_ext}
use Rattle.mm_types.specs.{Key, Pid, Place, holds_page, Range, reserve_type, Area}
use Rattle.mm_types.specs.declared.numbers.Key.TheVariants as key
use Rattle.mm_types.proofs.{same_or_not, same_tests, and_false, spread, or_left, or_right, by_either, cond_twice, both, none_of, some_found}
use Rattle.mm_world.specs.{Page, filled, RegionOf, same_key, own_page, AreaOf, numbered}
use Rattle.mm_world.proofs.{and-true, same_again, numbered_inside}
use Rattle.mm_store.specs.{StoreOf, is_place_in, rearranged, place_at, changed_in, own_key, MayRemove, IsReleasing, AllBound}
use Rattle.mm_move_rules.specs.{same_place}
use Rattle.mm_move_rules.specs.{changed}
use Rattle.mm_object_tables.specs.{is_key_in, with_range_keys, flags_set_in, passing, is_page_live, is_page_dead, one_page_range, Adds, CanAdd, Come}
use Rattle.mm_object_tables.specs.{with_flags, with_live, first_pages, Effect, Makes, Leaves, RangeStored, CanMake, contents_by, paging_by, new_pages}
use Rattle.mm_object_tables.specs.{store_beside, NewPlaces, MoreRoom, owned_among, KnownAt, KnownIn, is_owned_among, without_keys, without_paging}
use Rattle.mm_object_tables.specs.{without_names, Gone, CanGo, CanGoAll, shared_at, is_committed_in, is_key_of_area, CanEnd, Emptied, is_owned_at}
use Rattle.mm_object_tables.specs.{CanRelease, CanGiveUp, GivenUp, Less, places_by, Ends, bound_by}
use Rattle.mm_object_tables.proofs.Rows.{within, holds, holds_not}
use Rattle.std.proofs.lemmas.List.Sums.{sum_by-cons}
use Rattle.mm_types.specs.declared.moves.LineKind.TheVariants as line_kind

abbrev pub own : Pid → ℕ → Key
own pid page = key.Private pid (record { 0 = page })

-- ---- one page

pub holds_only : (page v : ℕ) → holds_page (one_page_range page) v ≡ (v == page)
holds_only page v =
    same_tests _ _
    (λ e. let w = within (one_page_range page) v e in (unsigned_Decides v page).1 (let same : v ≡ page = omega (arith, w.low, w.high) in same))
    (λ e. let same : v ≡ page = (unsigned_Decides v page).0 e in holds (one_page_range page) v (omega (arith, same)) (omega (arith, same)))

pub key_in_only : (pid : Pid) (page : ℕ) (k : Key) → is_key_in pid (one_page_range page) k ≡ same_key k (own pid page)
key_in_only pid page (key.Private p v) = ap (λ b. (p.0 == pid.0) && b) (holds_only page v.0)
key_in_only pid page (key.Shared area index) = refl

pub place_in_only : (pid : Pid) (page : ℕ) (q : Place) → is_place_in pid (one_page_range page) q ≡ same_place q (place_at pid page)
place_in_only pid page q = ap (λ b. (q.pid.0 == pid.0) && b) (holds_only page q.vpn.0)

pub same_key_is : (k j : Key) → same_key k j ≡ true → k ≡ j
same_key_is (key.Private p v) (key.Private q w) e =
    let h = and-true (p.0 == q.0) (v.0 == w.0) e in
    let a = (unsigned_Decides p.0 q.0).0 h.0 in
    let b = (unsigned_Decides v.0 w.0).0 h.1 in
    λ i. key.Private (record { 0 = a i }) (record { 0 = b i })
same_key_is (key.Shared x v) (key.Shared y w) e =
    let h = and-true (x.0 == y.0) (v == w) e in
    let a = (unsigned_Decides x.0 y.0).0 h.0 in
    let b = (unsigned_Decides v w).0 h.1 in
    λ i. key.Shared (record { 0 = a i }) (b i)
same_key_is (key.Private p v) (key.Shared y w) e = cc
same_key_is (key.Shared x v) (key.Private q w) e = cc

pub same_place_is : (pid : Pid) (page : ℕ) (q : Place) → same_place q (place_at pid page) ≡ true → q ≡ place_at pid page
same_place_is pid page q e =
    let h = and-true (q.pid.0 == pid.0) (q.vpn.0 == page) e in
    let a = (unsigned_Decides q.pid.0 pid.0).0 h.0 in
    let b = (unsigned_Decides q.vpn.0 page).0 h.1 in
    λ i. record { pid = record { 0 = a i }; vpn = record { 0 = b i } }

-- a function of keys, where it is changed at one key
pub cond_at : {V : Type 0} (b : Bool) (x y z : V) → (b ≡ true → x ≡ y) → cond b x z ≡ cond b y z
cond_at true x y z e = e refl
cond_at false x y z e = refl

pub cond_same : {V : Type 0} (b : Bool) (x z : V) → (b ≡ true → x ≡ z) → cond b x z ≡ z
cond_same true x z e = e refl
cond_same false x z e = refl

pub by_same : {V : Type 0} (pid : Pid) (page : ℕ) (f x : Key → V) → x (own pid page) ≡ f (own pid page) → (k : Key) (b : Bool) → same_key k (own pid page) ≡ b → cond b (x k) (f k) ≡ f k
by_same pid page f x e k true same = let is = same_key_is k (own pid page) same in ap x is ∙ e ∙ sym (ap f is)
by_same pid page f x e k false same = refl

pub some_of : (o : Option Page) → is_some o ≡ true → Some (unwrap_or o (filled 0)) ≡ o
some_of None e = cc
some_of (Some x) e = refl

pub set_only : (pid : Pid) (page : ℕ) (f : Key → Bool) (x : Bool) → flags_set_in pid (one_page_range page) f x ≡ changed same_key f (own pid page) x
set_only pid page f x = fun_ext (λ k. ap (λ b. cond b x (f k)) (key_in_only pid page k))

pub once : (test : ℕ → Bool) (page : ℕ) → passing test page 1 ≡ cond (test page) 1 0
once test page = ap (λ (k : ℕ). 0 + cond (test k) 1 0) (let same : page + 0 ≡ page = omega arith in same) ∙ (let same : 0 + cond (test page) 1 0 ≡ cond (test page) 1 0 = omega arith in same)

-- ---- ranges

pub holds_more : (range : Range) (n v : ℕ) → holds_page (first_pages range (suc n)) v ≡ (holds_page (one_page_range (range.first + n)) v || holds_page (first_pages range n) v)
holds_more range n v =
    same_tests _ _
    (λ e. let w = within (first_pages range (suc n)) v e in
    elim (same_or_not v (range.first + n)) [
      | inl same ↦ or_left (holds_page (one_page_range (range.first + n)) v) (holds_page (first_pages range n) v) (holds (one_page_range (range.first + n)) v (omega (arith, same)) (omega (arith, same)))
      | inr other ↦ or_right (holds_page (one_page_range (range.first + n)) v) (holds_page (first_pages range n) v) (holds (first_pages range n) v w.low (omega (arith, w.high, other)))
    ])
    (λ e. by_either (holds_page (one_page_range (range.first + n)) v) (holds_page (first_pages range n) v) e (holds_page (first_pages range (suc n)) v ≡ true)
    (λ h. let w = within (one_page_range (range.first + n)) v h in holds (first_pages range (suc n)) v (omega (arith, w.low)) (omega (arith, w.low, w.high)))
    (λ h. let w = within (first_pages range n) v h in holds (first_pages range (suc n)) v (omega (arith, w.low)) (omega (arith, w.low, w.high))))

pub key_in_more : (pid : Pid) (range : Range) (n : ℕ) (k : Key) → is_key_in pid (first_pages range (suc n)) k ≡ (is_key_in pid (one_page_range (range.first + n)) k || is_key_in pid (first_pages range n) k)
key_in_more pid range n (key.Private p v) = ap (λ b. (p.0 == pid.0) && b) (holds_more range n v.0) ∙ spread (p.0 == pid.0) (holds_page (one_page_range (range.first + n)) v.0) (holds_page (first_pages range n) v.0)
key_in_more pid range n (key.Shared area index) = refl

-- ---- keys that come to be

added_twice : (a b : Bool) (o : Option Page) → cond a (Some (unwrap_or (cond b (Some (unwrap_or o (filled 0))) o) (filled 0))) (cond b (Some (unwrap_or o (filled 0))) o) ≡ cond (a || b) (Some (unwrap_or o (filled 0))) o
added_twice true true o = refl
added_twice _ _ o = refl

-- those that are held are there already
pub come_same : (held : Key → Bool) (n : ℕ) (c : Key → Option Page) (s : StoreOf) → n ≡ 0 → ((k : Key) → held k ≡ true → (is_some (c k) ≡ true) × (s.paging k ≡ true)) → Come held n c c s s
come_same held n c s none there =
    let count : s.paging_keys ≡ s.paging_keys + n = omega (arith, none) in
    record {
      contents = fun_ext (λ k. sym (cond_same (held k) (Some (unwrap_or (c k) (filled 0))) (c k) (λ e. some_of (c k) (there k e).0)));
      store = λ i. record s { paging = fun_ext (λ k. sym (cond_same (held k) true (s.paging k) (λ e. sym (there k e).1))) i; paging_keys = count i };
    }

-- one key
pub come_one : (made : Key) (held : Key → Bool) (n : ℕ) (c d : Key → Option Page) (s z : StoreOf) → ((k : Key) → held k ≡ same_key k made) → n ≡ 1 → c made ≡ None → d ≡ changed same_key c made (Some (filled 0)) → z ≡ record s { paging = changed same_key s.paging made true; paging_keys = s.paging_keys + 1; report = rearranged s.report z.report } → Come held n c d s z
come_one made held n c d s z only one none contents store =
    record {
      contents = contents ∙ sym (fun_ext (λ k.
          ap (λ b. cond b (Some (unwrap_or (c k) (filled 0))) (c k)) (only k)
          ∙ cond_at (same_key k made) (Some (unwrap_or (c k) (filled 0))) (Some (filled 0)) (c k) (λ e. ap (λ (o : Option Page). Some (unwrap_or o (filled 0))) (ap c (same_key_is k made e) ∙ none))));
      store = store ∙ (λ i. record s {
        paging = sym (fun_ext (λ k. ap (λ b. cond b true (s.paging k)) (only k))) i;
        paging_keys = s.paging_keys + sym one i;
        report = rearranged s.report z.report;
      });
    }

-- some, and then others
pub come_then : (held step more : Key → Bool) (n m total : ℕ) {c d e : Key → Option Page} {s z y : StoreOf} → ((k : Key) → more k ≡ (step k || held k)) → n + m ≡ total → Come held n c d s z → Come step m d e z y → Come more total c e s y
come_then held step more n m total {c} {s = s} {y = y} is counted a b =
    let count : s.paging_keys + n + m ≡ s.paging_keys + total = omega (arith, counted) in
    record {
      contents =
          b.contents ∙ ap (with_live step) a.contents
          ∙ fun_ext (λ k. added_twice (step k) (held k) (c k) ∙ ap (λ b. cond b (Some (unwrap_or (c k) (filled 0))) (c k)) (sym (is k)));
      store =
          b.store
          ∙ ap (λ (x : StoreOf). let made : StoreOf = record x { paging = with_flags step x.paging; paging_keys = x.paging_keys + m; report = rearranged x.report y.report } in made) a.store
          ∙ (λ i. record s {
            paging = fun_ext (λ k. cond_twice (step k) (held k) true (s.paging k) ∙ ap (λ b. cond b true (s.paging k)) (sym (is k))) i;
            paging_keys = count i;
            report = rearranged s.report y.report;
          });
    }

pub here : (pid : Pid) (range : Range) (page : ℕ) → holds_page range page ≡ true → is_place_in pid range (place_at pid page) ≡ true
here pid range page e = both (pid.0 == pid.0) (holds_page range page) ((unsigned_Decides pid.0 pid.0).1 refl) e

-- ---- the next page is not in the range yet

pub not_yet : (range : Range) (n : ℕ) → holds_page (first_pages range n) (range.first + n) ≡ false
not_yet range n = holds_not (first_pages range n) (range.first + n) (λ w. absurd (omega (arith, w.high)))

pub next_held : (range : Range) (n : ℕ) → n < range.count → holds_page range (range.first + n) ≡ true
next_held range n h = holds range (range.first + n) (omega arith) (omega (arith, h))

pub outside : (pid : Pid) (range : Range) (n : ℕ) → is_key_in pid (first_pages range n) (own pid (range.first + n)) ≡ false
outside pid range n = ap (λ b. (pid.0 == pid.0) && b) (not_yet range n) ∙ and_false (pid.0 == pid.0)

live_yet : (pid : Pid) (range : Range) (n : ℕ) (c d : Key → Option Page) → d ≡ with_range_keys pid (first_pages range n) c → is_page_live pid d (range.first + n) ≡ is_page_live pid c (range.first + n)
live_yet pid range n c d e =
    ap (λ (d : Key → Option Page). is_page_live pid d (range.first + n)) e
    ∙ ap (λ b. is_some (cond b (Some (unwrap_or (c (own pid (range.first + n))) (filled 0))) (c (own pid (range.first + n))))) (outside pid range n)

pub only_is : (page v : ℕ) → holds_page (one_page_range page) v ≡ true → v ≡ page
only_is page v e = (unsigned_Decides v page).0 (sym (holds_only page v) ∙ e)

-- a number that does not fall from one to the next
pub rises : (f : ℕ → ℕ) (n m : ℕ) → n ≤ m → ((k : ℕ) → k < m → f k ≤ f (suc k)) → f n ≤ f m
rises f n zero h up = let same : n ≡ 0 = omega (arith, h) in subst (λ (k : ℕ). f k ≤ f 0) (sym same) (omega arith)
rises f n (suc m) h up =
    elim (same_or_not n (suc m)) [
      | inl same ↦ subst (λ (k : ℕ). f k ≤ f (suc m)) (sym same) (omega arith)
      | inr other ↦ omega (arith, rises f n m (omega (arith, h, other)) (λ k low. up k (omega (arith, low))), up m (omega arith))
    ]

pub passing_most : (test : ℕ → Bool) (first n m : ℕ) → n ≤ m → passing test first n ≤ passing test first m
passing_most test first n m h = rises (passing test first) n m h (λ k low. omega arith)

at_most : (f : ℕ → Bool) (n : ℕ) → owned_among f n ≤ n
at_most f zero = omega arith
at_most f (suc n) =
    let before = at_most f n in
    elim (f n) as (λ b. owned_among f n + cond b 1 0 ≤ suc n) [
      | true ↦ omega (arith, before)
      | false ↦ omega (arith, before)
    ]

pub owned_passing : (test : ℕ → Bool) (first n : ℕ) → owned_among (λ i. test (first + i)) n ≡ passing test first n
owned_passing test first zero = refl
owned_passing test first (suc n) = ap (λ k. k + cond (test (first + n)) 1 0) (owned_passing test first n)

pub passing_few : (test : ℕ → Bool) (first n : ℕ) → passing test first n ≤ n
passing_few test first n = omega (arith, at_most (λ i. test (first + i)) n, owned_passing test first n)

-- where all pass
pub passing_all : (test : ℕ → Bool) (first n : ℕ) → ((j : ℕ) → j < n → test (first + j) ≡ true) → passing test first n ≡ n
passing_all test first zero all = refl
passing_all test first (suc n) all = omega (arith, passing_all test first n (λ j few. all j (omega (arith, few))), ap {B = ℕ} (λ b. cond b 1 0) (all n (omega arith)))

-- ---- the loop that adds

pub can_add_next : (pid : Pid) (range : Range) (n : ℕ) (rs : List (RegionOf (Unit {0}))) (c d : Key → Option Page) (s z : StoreOf) → CanAdd pid range rs c s → n < range.count → Adds pid (first_pages range n) c d s z → CanAdd pid (one_page_range (range.first + n)) rs d z
can_add_next pid range n rs c d s z can few a =
    let page = range.first + n in
    let held = next_held range n few in
    let yet = live_yet pid range n c d a.contents in
    let dead : is_page_dead pid d page ≡ is_page_dead pid c page = ap not yet in
    let used : z.paging_keys ≡ s.paging_keys + passing (is_page_dead pid c) range.first n = ap (λ (x : StoreOf). x.paging_keys) a.store in
    let room : z.room ≡ s.room = ap (λ (x : StoreOf). x.room) a.store in
    let one : passing (is_page_dead pid d) page 1 ≡ cond (is_page_dead pid c page) 1 0 = once (is_page_dead pid d) page ∙ ap (λ b. cond b 1 0) dead in
    let most : passing (is_page_dead pid c) range.first (suc n) ≤ passing (is_page_dead pid c) range.first range.count = passing_most (is_page_dead pid c) range.first (suc n) range.count (omega (arith, few)) in
    record {
      live = λ v e. subst (λ (v : ℕ). is_page_live pid d v ≡ is_some (own_page rs v)) (sym (only_is page v e)) (yet ∙ can.live page held);
      bound = λ v e. subst (λ (v : ℕ). z.bound (place_at pid v) ≡ true) (sym (only_is page v e)) (ap (λ (x : StoreOf). x.bound (place_at pid page)) a.store ∙ can.bound page held);
      named = λ v e. subst (λ (v : ℕ). is_page_live pid d v ≡ false → z.names (place_at pid v) ≡ None) (sym (only_is page v e)) (λ free.
          ap (λ (x : StoreOf). x.names (place_at pid page)) a.store ∙ can.named page held (sym yet ∙ free));
      paging = λ v e. subst (λ (v : ℕ). z.paging (own pid v) ≡ is_page_live pid d v) (sym (only_is page v e)) (
          ap (λ (x : StoreOf). x.paging (own pid page)) a.store ∙ ap (λ b. cond b true (s.paging (own pid page))) (outside pid range n) ∙ can.paging page held ∙ sym yet
          );
      room = omega (arith, can.room, used, room, one, most);
      called = ap (λ (x : StoreOf). x.kind) a.store ∙ can.called;
    }

pub adds_then : (pid : Pid) (range : Range) (n : ℕ) (c d e : Key → Option Page) (s z y : StoreOf) → Adds pid (first_pages range n) c d s z → Adds pid (one_page_range (range.first + n)) d e z y → Adds pid (first_pages range (n + 1)) c e s y
adds_then pid range n c d e s z y a b =
    let page = range.first + n in
    let more : suc n ≡ n + 1 = omega arith in
    let one : passing (is_page_dead pid d) page 1 ≡ cond (is_page_dead pid c page) 1 0 =
    once (is_page_dead pid d) page ∙ ap (λ b. cond (not b) 1 0) (live_yet pid range n c d a.contents) in
    subst (λ (k : ℕ). Adds pid (first_pages range k) c e s y) more
    (come_then _ _ (is_key_in pid (first_pages range (suc n))) (passing (is_page_dead pid c) range.first n) (passing (is_page_dead pid d) page 1) (passing (is_page_dead pid c) range.first (suc n)) (key_in_more pid range n) (omega (arith, one)) a b)

-- ---- a range of no page

pub no_key_in : (pid : Pid) (range : Range) (k : Key) → is_key_in pid (first_pages range 0) k ≡ false
no_key_in pid range (key.Private p v) = ap (λ b. (p.0 == pid.0) && b) (holds_not (first_pages range 0) v.0 (λ w. absurd (omega (arith, w.low, w.high)))) ∙ and_false (p.0 == pid.0)
no_key_in pid range (key.Shared area index) = refl

pub no_place_in : (pid : Pid) (range : Range) (q : Place) → is_place_in pid (first_pages range 0) q ≡ false
no_place_in pid range q = ap (λ b. (q.pid.0 == pid.0) && b) (holds_not (first_pages range 0) q.vpn.0 (λ w. absurd (omega (arith, w.low, w.high)))) ∙ and_false (q.pid.0 == pid.0)

-- ---- the key of one page comes to be, or is there

one_dead : (pid : Pid) (page : ℕ) (c : Key → Option Page) (b : Bool) → is_page_live pid c page ≡ b → passing (is_page_dead pid c) page 1 ≡ cond (not b) 1 0
one_dead pid page c b e = once (is_page_dead pid c) page ∙ ap (λ b. cond (not b) 1 0) e

pub adds_one : (pid : Pid) (page : ℕ) (c d : Key → Option Page) (s z : StoreOf) → is_page_live pid c page ≡ false → d ≡ changed same_key c (own pid page) (Some (filled 0)) → z ≡ record s { paging = changed same_key s.paging (own pid page) true; paging_keys = s.paging_keys + 1; report = rearranged s.report z.report } → Adds pid (one_page_range page) c d s z
adds_one pid page c d s z free contents store =
    come_one (own pid page) (is_key_in pid (one_page_range page)) (passing (is_page_dead pid c) page 1) c d s z (key_in_only pid page) (one_dead pid page c false free) (none_of (c (own pid page)) free) contents store

pub adds_none : (pid : Pid) (page : ℕ) (c : Key → Option Page) (s : StoreOf) → is_page_live pid c page ≡ true → s.paging (own pid page) ≡ true → Adds pid (one_page_range page) c c s s
adds_none pid page c s live paging =
    come_same (is_key_in pid (one_page_range page)) (passing (is_page_dead pid c) page 1) c s (one_dead pid page c true live) (λ k e.
    let is = same_key_is k (own pid page) (sym (key_in_only pid page k) ∙ e) in
    (ap (λ (k : Key). is_some (c k)) is ∙ live, ap s.paging is ∙ paging))

-- no page, and no key
pub adds_nothing : (pid : Pid) (range : Range) (c : Key → Option Page) (s : StoreOf) → Adds pid (first_pages range 0) c c s s
adds_nothing pid range c s = come_same (is_key_in pid (first_pages range 0)) 0 c s refl (λ k e. let bad : false ≡ true = sym (no_key_in pid range k) ∙ e in cc)

-- ---- the keys of a new region's pages can be added once its places are bound, and what both come to

pub can_fill : (pid : Pid) (range : Range) (type total : ℕ) (rs ss : List (RegionOf (Unit {0}))) (c d : Key → Option Page) (s z : StoreOf) → CanMake pid range type total rs c s → RangeStored pid range Leaves Makes true c d s z → z.paging_keys ≡ s.paging_keys → total ≤ z.room → ss ≡ rs → (type == reserve_type) ≡ false → CanAdd pid range ss d z
can_fill pid range type total rs ss c d s z can stored used more same commits =
    let pages : new_pages type range ≡ range.count = ap (λ b. cond b 0 range.count) commits in
    record {
      live = λ page h. ap (λ (d : Key → Option Page). is_page_live pid d page) stored.contents ∙ can.live page h ∙ ap (λ rs. is_some (own_page rs page)) (sym same);
      bound = λ page h. ap (λ (b : Place → Bool). b (place_at pid page)) stored.bound ∙ ap (λ b. cond b true (s.bound (place_at pid page))) (here pid range page h);
      named = λ page h free. ap (λ (n : Place → Option Key). n (place_at pid page)) stored.names ∙ ap (λ b. cond b None (s.names (place_at pid page))) (here pid range page h);
      paging = λ page h. ap (λ (p : Key → Bool). p (own_key (place_at pid page))) stored.paging ∙ can.paging page h ∙ ap (λ (d : Key → Option Page). is_page_live pid d page) (sym stored.contents);
      room = omega (arith, can.few, pages, used, more, passing_few (is_page_dead pid d) range.first range.count);
      called = ap (λ (x : StoreOf). x.kind) stored.same ∙ can.called;
    }

-- room is made, and then places are bound
pub new_places : (pid : Pid) (range : Range) (s y z : StoreOf) → y ≡ record s { room = y.room } → s.room ≤ y.room → z ≡ record y { bound = changed_in pid range y.bound true; names = changed_in pid range y.names None } → NewPlaces pid range s z
new_places pid range s y z e later f =
    let room : z.room ≡ y.room = ap (λ (x : StoreOf). x.room) f in
    record {
      store =
          f ∙ ap (λ (x : StoreOf). let made : StoreOf = record x { bound = changed_in pid range x.bound true; names = changed_in pid range x.names None } in made) e
          ∙ (λ i. record s { bound = changed_in pid range s.bound true; names = changed_in pid range s.names None; room = sym room i });
      later = omega (arith, later, room);
    }

-- room was made, and no place was bound
pub more_room : (s y z : StoreOf) → y ≡ record s { room = y.room } → s.room ≤ y.room → z ≡ y → MoreRoom s z
more_room s y z e later f =
    let room : z.room ≡ y.room = ap (λ (x : StoreOf). x.room) f in
    record { store = f ∙ e ∙ (λ i. record s { room = sym room i }); later = omega (arith, later, room) }

pub places_stored : {pid : Pid} {range : Range} {c d : Key → Option Page} {s z : StoreOf} → NewPlaces pid range s z → d ≡ c → RangeStored pid range Leaves Makes true c d s z
places_stored {s = s} n same = record {
  contents = same;
  paging = ap (λ (x : StoreOf). x.paging) n.store;
  bound = ap (λ (x : StoreOf). x.bound) n.store;
  names = ap (λ (x : StoreOf). x.names) n.store;
  open_same = ap (λ (x : StoreOf). x.is_open) n.store;
  areas_same = ap (λ (x : StoreOf). x.areas) n.store;
  same = n.store ∙ ap (store_beside s) (sym n.store);
}

-- keys come to be, and nothing else of the range is other
pub keys_stored : {pid : Pid} {range : Range} {n : ℕ} {c d : Key → Option Page} {s z : StoreOf} → Come (is_key_in pid range) n c d s z → RangeStored pid range Makes Leaves false c d s z
keys_stored {pid} {range} {n} {c} {d} {s} {z} a =
    subst (λ (z : StoreOf). RangeStored pid range Makes Leaves false c d s z) (sym a.store)
    (record { contents = a.contents; paging = refl; bound = refl; names = refl; open_same = refl; areas_same = refl; same = refl })

pub region_filled : {pid : Pid} {range : Range} {keys : Effect} {c d e : Key → Option Page} {s y z : StoreOf} → RangeStored pid range Leaves Makes true c d s y → RangeStored pid range keys Leaves false d e y z → RangeStored pid range keys Makes true c e s z
region_filled {pid} {range} {keys} {z = z} a b = record {
  contents = b.contents ∙ ap (contents_by keys pid range) a.contents;
  paging = b.paging ∙ ap (paging_by keys pid range) a.paging;
  bound = b.bound ∙ a.bound;
  names = b.names ∙ a.names;
  open_same = b.open_same ∙ a.open_same;
  areas_same = b.areas_same ∙ a.areas_same;
  same = b.same ∙ ap (λ (x : StoreOf). store_beside x z) a.same;
}

-- what holds after an error
pub err_then : {T E P Q : Type 0} (r : Result T E) → OnErr r P → (P → Q) → OnErr r Q
err_then (Ok v) p f = tt
err_then (Err e) p f = f p

-- ---- what is known of the pages of a range, from how many of them have bytes of their own

pub known_at : (known : Option Bool) (rs : List (RegionOf (Unit {0}))) (range : Range) (i : ℕ) → KnownIn known rs range → i < range.count → KnownAt known rs (range.first + i)
known_at None rs range i known few = tt
known_at (Some owned) rs range i known few = known i few

-- where as many are owned as there are, each is
pub all_owned : (f : ℕ → Bool) (n : ℕ) → owned_among f n ≡ n → (i : ℕ) → i < n → f i ≡ true
all_owned f zero e i few = absurd (omega (arith, few))
all_owned f (suc n) e i few =
    let before = at_most f n in
    elim (f n) as (λ b. f n ≡ b → owned_among f n + cond b 1 0 ≡ suc n → f i ≡ true) [
      | true ↦ λ here all. elim (same_or_not i n) [
        | inl same ↦ ap f same ∙ here
        | inr other ↦ all_owned f n (omega (arith, all)) i (omega (arith, few, other))
      ]
      | false ↦ λ here all. absurd (omega (arith, all, before))
    ] refl e

-- ---- keys

among_one : (at : ℕ → Key) (owned : ℕ → Bool) (n i : ℕ) (k : Key) → i < n → owned i ≡ true → k ≡ at i → is_owned_among at owned n k ≡ true
among_one at owned zero i k few o e = absurd (omega (arith, few))
among_one at owned (suc n) i k few o e =
    elim (same_or_not i n) [
      | inl same ↦
          or_left (owned n && same_key k (at n)) (is_owned_among at owned n k)
          (both (owned n) (same_key k (at n)) (ap owned (sym same) ∙ o) (ap (λ (j : Key). same_key k j) (sym (e ∙ ap at same)) ∙ same_again k))
      | inr other ↦ or_right (owned n && same_key k (at n)) (is_owned_among at owned n k) (among_one at owned n i k (omega (arith, few, other)) o e)
    ]

-- ---- the loops

pub gone_then : (at : ℕ → Key) (owned : ℕ → Bool) (n : ℕ) {c d e : Key → Option Page} {s z y : StoreOf} → Gone (is_owned_among at owned n) (owned_among owned n) c d s z → Gone (λ k. owned n && same_key k (at n)) (cond (owned n) 1 0) d e z y → Gone (is_owned_among at owned (n + 1)) (owned_among owned (n + 1)) c e s y
gone_then at owned n {c = c} {e = e} {s = s} {y = y} a b =
    let more : suc n ≡ n + 1 = omega arith in
    let step : Key → Bool = λ k. owned n && same_key k (at n) in
    let count : s.paging_keys - owned_among owned n - cond (owned n) 1 0 ≡ s.paging_keys - owned_among owned (suc n) = omega arith in
    let names : without_names step (without_names (is_owned_among at owned n) s.names) ≡ without_names (is_owned_among at owned (suc n)) s.names =
    fun_ext (λ q. cond_twice (step (own_key q)) (is_owned_among at owned n (own_key q)) None (s.names q)) in
    let paging : without_paging step (without_paging (is_owned_among at owned n) s.paging) ≡ without_paging (is_owned_among at owned (suc n)) s.paging =
    fun_ext (λ k. cond_twice (step k) (is_owned_among at owned n k) false (s.paging k)) in
    let contents : without_keys step (without_keys (is_owned_among at owned n) c) ≡ without_keys (is_owned_among at owned (suc n)) c =
    fun_ext (λ k. cond_twice (step k) (is_owned_among at owned n k) None (c k)) in
    subst (λ (m : ℕ). Gone (is_owned_among at owned m) (owned_among owned m) c e s y) more (record {
      contents = b.contents ∙ ap (without_keys step) a.contents ∙ contents;
      store =
          b.store
          ∙ ap (λ (x : StoreOf). let made : StoreOf = record x { names = without_names step x.names; paging = without_paging step x.paging; paging_keys = x.paging_keys - cond (owned n) 1 0; report = rearranged x.report y.report } in made) a.store
          ∙ (λ i. record s { names = names i; paging = paging i; paging_keys = count i; report = rearranged s.report y.report });
    })

named_still : (b : Bool) (o : Option Key) (k : Key) → cond b None o ≡ Some k → (o ≡ Some k) × (b ≡ false)
named_still true o k e = cc
named_still false o k e = (e, refl)

may_still : (held : Key → Bool) (k : Key) (s z : StoreOf) → z.kind ≡ s.kind → z.names ≡ without_names held s.names → MayRemove s k → MayRemove z k
may_still held (key.Private pid vpn) s z kind names may =
    elim may [
      | inl e ↦ inl (kind ∙ e)
      | inr h ↦ inr (
        subst IsReleasing (sym kind) h.0,
        ap (λ (f : Place → Option Key). f (record { pid = pid; vpn = vpn })) names
            ∙ cond_same (held (key.Private pid vpn)) None (s.names (record { pid = pid; vpn = vpn })) (λ b. sym h.1) ∙ h.1,
      )
    ]
may_still held (key.Shared area index) s z kind names may = (
  subst IsReleasing (sym kind) may.0,
  λ place e. may.1 place (named_still (held (own_key place)) (s.names place) (key.Shared area index) (sym (ap (λ (f : Place → Option Key). f place) names) ∙ e)).0,
)

among_apart : (at : ℕ → Key) (owned : ℕ → Bool) (n j : ℕ) → ((a b : ℕ) → a < b → same_key (at b) (at a) ≡ false) → n ≤ j → is_owned_among at owned n (at j) ≡ false
among_apart at owned zero j apart few = refl
among_apart at owned (suc n) j apart few =
    ap (λ b. (owned n && b) || is_owned_among at owned n (at j)) (apart n j (omega (arith, few)))
    ∙ ap (λ b. b || is_owned_among at owned n (at j)) (and_false (owned n))
    ∙ among_apart at owned n j apart (omega (arith, few))

pub can_go_next : (at : ℕ → Key) (owned : ℕ → Bool) (n i : ℕ) {c d : Key → Option Page} {s z : StoreOf} → CanGoAll at owned n s → i < n → Gone (is_owned_among at owned i) (owned_among owned i) c d s z → CanGo (at i) (owned i) z
can_go_next at owned n i {s = s} {z = z} can few g =
    record {
      paging = λ o.
          ap (λ (x : StoreOf). x.paging (at i)) g.store
          ∙ ap (λ b. cond b false (s.paging (at i))) (among_apart at owned i i can.apart (omega arith))
          ∙ (can.each i few).paging o;
      may = λ o. may_still (is_owned_among at owned i) (at i) s z (ap (λ (x : StoreOf). x.kind) g.store) (ap (λ (x : StoreOf). x.names) g.store) ((can.each i few).may o);
    }

-- ---- what is left

pub gone_same : (b : Bool) (o : Option Page) → is_some (cond b None o) ≡ true → cond b None o ≡ o
gone_same true o e = cc
gone_same false o e = refl

-- ---- the pages of an area

inside : (xs : List (Option (Unit {0}))) (i : ℕ) → is_some (numbered xs i) ≡ true → i < length xs
inside xs i e = let x = some_found (numbered xs i) e in numbered_inside xs i x.0 x.1

-- of an area none that stands below is left
pub lower_gone : (area : Area) (owned : ℕ → Bool) (n i : ℕ) {c d : Key → Option Page} {s z : StoreOf}
    → ((i : ℕ) → is_some (c (shared_at area i)) ≡ owned i)
    → Gone (is_owned_among (shared_at area) owned n) (owned_among owned n) c d s z → i < n
    → d (shared_at area i) ≡ None
lower_gone area owned n i {c = c} live g low = ap (λ (f : Key → Option Page). f (shared_at area i)) g.contents ∙ by_owned (owned i) refl
  where
    held : Bool
    held = is_owned_among (shared_at area) owned n (shared_at area i)

    by_owned : (b : Bool) → owned i ≡ b → cond held None (c (shared_at area i)) ≡ None
    by_owned true e = ap (λ h. cond h None (c (shared_at area i))) (among_one (shared_at area) owned n i (shared_at area i) low e refl)
    by_owned false e = let none = none_of (c (shared_at area i)) (live i ∙ e) in cond_same held None (c (shared_at area i)) (λ b. sym none) ∙ none

-- another key is not among them
among_out : (area : Area) (owned : ℕ → Bool) (n : ℕ) (k : Key) → is_key_of_area area.0 k ≡ false → is_owned_among (shared_at area) owned n k ≡ false
among_out area owned zero k out = refl
among_out area owned (suc n) k out =
    ap (λ b. (owned n && b) || is_owned_among (shared_at area) owned n k) (by_kind k out) ∙ ap (λ b. b || is_owned_among (shared_at area) owned n k) (and_false (owned n)) ∙ among_out area owned n k out
  where
    by_kind : (k : Key) → is_key_of_area area.0 k ≡ false → same_key k (shared_at area n) ≡ false
    by_kind (key.Private p v) out = refl
    by_kind (key.Shared b i) out = ap (λ t. t && (i == n)) out

-- of its keys, those that are removed are those that are committed; what the others have is this already
shared_test : {V : Type 0} (area : Area) (a : AreaOf (Unit {0})) (f : Key → V) (x : V) → ((i : ℕ) → is_committed_in a i ≡ false → f (shared_at area i) ≡ x) → (k : Key) → cond (is_owned_among (shared_at area) (is_committed_in a) (length a.pages) k) x (f k) ≡ cond (is_key_of_area area.0 k) x (f k)
shared_test {V} area a f x h (key.Private p v) = ap (λ t. cond t x (f (key.Private p v))) (among_out area (is_committed_in a) (length a.pages) (key.Private p v) refl)
shared_test {V} area a f x h (key.Shared b i) = by_area (b.0 == area.0) refl
  where
    by_index : key.Shared b i ≡ shared_at area i → (o : Bool) → is_committed_in a i ≡ o → cond (is_owned_among (shared_at area) (is_committed_in a) (length a.pages) (key.Shared b i)) x (f (key.Shared b i)) ≡ x
    by_index is true o = ap (λ t. cond t x (f (key.Shared b i))) (among_one (shared_at area) (is_committed_in a) (length a.pages) i (key.Shared b i) (inside a.pages i o) o is)
    by_index is false o = let e = ap f is ∙ h i o in cond_same (is_owned_among (shared_at area) (is_committed_in a) (length a.pages) (key.Shared b i)) x (f (key.Shared b i)) (λ b. sym e) ∙ e

    by_area : (t : Bool) → (b.0 == area.0) ≡ t → cond (is_owned_among (shared_at area) (is_committed_in a) (length a.pages) (key.Shared b i)) x (f (key.Shared b i)) ≡ cond t x (f (key.Shared b i))
    by_area true e = let same = (unsigned_Decides b.0 area.0).0 e in by_index (λ n. key.Shared (record { 0 = same n }) i) (is_committed_in a i) refl
    by_area false e = ap (λ t. cond t x (f (key.Shared b i))) (among_out area (is_committed_in a) (length a.pages) (key.Shared b i) e)

area_dead : (area : Area) (a : AreaOf (Unit {0})) {c d : Key → Option Page} {s z : StoreOf} → CanEnd area a c s → Gone (is_owned_among (shared_at area) (is_committed_in a) (length a.pages)) (owned_among (is_committed_in a) (length a.pages)) c d s z → d ≡ without_keys (is_key_of_area area.0) c
area_dead area a {c = c} can g = g.contents ∙ fun_ext (shared_test area a c None (λ i none. none_of (c (shared_at area i)) (can.live i ∙ none)))

pub shared_dead : (area : Area) (a : AreaOf (Unit {0})) {c d : Key → Option Page} {s z : StoreOf} → CanEnd area a c s → Gone (is_owned_among (shared_at area) (is_committed_in a) (length a.pages)) (owned_among (is_committed_in a) (length a.pages)) c d s z → (index : ℕ) → d (key.Shared area index) ≡ None
shared_dead area a {c = c} can g index =
    ap (λ (f : Key → Option Page). f (key.Shared area index)) (area_dead area a can g) ∙ ap (λ b. cond b None (c (key.Shared area index))) ((unsigned_Decides area.0 area.0).1 refl)

pub owned_front : (f : ℕ → Bool) (n : ℕ) → owned_among f (suc n) ≡ cond (f 0) 1 0 + owned_among (λ i. f (suc i)) n
owned_front f zero = omega arith
owned_front f (suc n) = omega (arith, owned_front f n)

pub owned_same : (f g : ℕ → Bool) (n : ℕ) → ((i : ℕ) → i < n → f i ≡ g i) → owned_among f n ≡ owned_among g n
owned_same f g zero h = refl
owned_same f g (suc n) h = omega (arith, owned_same f g n (λ i few. h i (omega (arith, few))), ap {B = ℕ} (λ b. cond b 1 0) (h n (omega arith)))

committed_count : (xs : List (Option (Unit {0}))) → owned_among (λ i. is_some (numbered xs i)) (length xs) ≡ count_by is_some xs
committed_count [] = refl
committed_count (x ∷ xs) = omega (arith, owned_front (λ i. is_some (numbered (x ∷ xs) i)) (length xs), sum_by-cons (λ x. cond (is_some x) 1 0) x xs, committed_count xs)

pub emptied : (area : Area) (a : AreaOf (Unit {0})) {c d e : Key → Option Page} {s y z : StoreOf} → CanEnd area a c s → Gone (is_owned_among (shared_at area) (is_committed_in a) (length a.pages)) (owned_among (is_committed_in a) (length a.pages)) c d s y → e ≡ d → z ≡ record y { areas = changed ◌==◌ y.areas area.0 None } → Emptied area a c e s z
emptied area a {s = s} {z = z} can g same after =
    record {
      contents = same ∙ area_dead area a can g;
      store =
          after ∙ (λ i. record (g.store i) { areas = changed ◌==◌ (g.store i).areas area.0 None })
          ∙ (λ i. record s {
            names = fun_ext (λ q. ap (λ b. cond b None (s.names q)) (among_out area (is_committed_in a) (length a.pages) (own_key q) refl)) i;
            paging = fun_ext (shared_test area a s.paging false (λ j none. can.paging j ∙ none)) i;
            paging_keys = s.paging_keys - committed_count a.pages i;
            areas = changed ◌==◌ s.areas area.0 None;
            report = rearranged s.report (ap (λ (x : StoreOf). x.report) (sym after) i);
          });
    }

-- ---- one page

-- a function of keys set at a page's key where it is owned, and which has that value already where it is not
at_own : {V : Type 0} (owned : Bool) (pid : Pid) (page : ℕ) (f : Key → V) (x : V) → (owned ≡ false → f (own pid page) ≡ x) → (k : Key) → cond (owned && same_key k (own pid page)) x (f k) ≡ cond (is_key_in pid (one_page_range page) k) x (f k)
at_own true pid page f x e k = ap (λ b. cond b x (f k)) (sym (key_in_only pid page k))
at_own false pid page f x e k = sym (ap (λ b. cond b x (f k)) (key_in_only pid page k) ∙ by_same pid page f (λ k. x) (sym (e refl)) k _ refl)

at_place : (owned held : Bool) (o : Option Key) → cond held None (cond (owned && held) None o) ≡ cond held None o
at_place owned true o = refl
at_place owned false o = ap (λ b. cond b None o) (and_false owned)

-- of places, by their own keys
abbrev pub by_key : (Place → Option Key) → Key → Option Key
by_key names (key.Private pid vpn) = names (record { pid = pid; vpn = vpn })
by_key names (key.Shared area index) = None

module _ {goes : Bool} {pid : Pid} {page : ℕ} {owned : Bool} {c : Key → Option Page} {s : StoreOf} (can : CanGiveUp goes pid page owned c s) where
  pub page_can_go : CanGo (own pid page) owned s
  page_can_go = record { paging = λ o. can.paging ∙ o; may = λ o. inl can.unbinding }

  not_live : owned ≡ false → c (own pid page) ≡ None
  not_live e = none_of (c (own pid page)) (can.live ∙ e)

  -- its key has gone
  module _ {n : ℕ} {d : Key → Option Page} {y : StoreOf} (g : Gone (λ k. owned && same_key k (own pid page)) n c d s y) where
    pub page_bound : goes ≡ true → AllBound y pid (one_page_range page) true
    page_bound too v e = ap (λ (v : ℕ). y.bound (place_at pid v)) (only_is page v e) ∙ ap (λ (x : StoreOf). x.bound (place_at pid page)) g.store ∙ can.bound too

    pub page_dead : (v : ℕ) → page ≤ v → v < page + 1 → d (own pid v) ≡ None
    page_dead v low high =
        let same : v ≡ page = omega (arith, low, high) in
        ap (λ (v : ℕ). d (own pid v)) same ∙ ap (λ (f : Key → Option Page). f (own pid page)) g.contents
        ∙ at_own owned pid page c None not_live (own pid page)
        ∙ ap (λ b. cond b None (c (own pid page))) (key_in_only pid page (own pid page) ∙ same_again (own pid page))

    pub page_unbinding : y.kind ≡ line_kind.Unbind pid
    page_unbinding = ap (λ (x : StoreOf). x.kind) g.store ∙ can.unbinding

    contents_now : d ≡ without_keys (is_key_in pid (one_page_range page)) c
    contents_now = g.contents ∙ fun_ext (λ k. at_own owned pid page c None not_live k)

    paging_now : without_paging (λ k. owned && same_key k (own pid page)) s.paging ≡ without_paging (is_key_in pid (one_page_range page)) s.paging
    paging_now = fun_ext (λ k. at_own owned pid page s.paging false (λ e. can.paging ∙ e) k)

    -- its place stays
    pub key_given : goes ≡ false → GivenUp false pid (one_page_range page) n c d s y
    key_given stays = record {
      contents = contents_now;
      store = g.store ∙ (λ i. record s {
        names = fun_ext (λ q. at_own owned pid page (by_key s.names) None (can.named stays) (own_key q)) i;
        paging = paging_now i;
        paging_keys = s.paging_keys - n;
        report = rearranged s.report y.report;
      });
    }

    -- or goes too
    pub place_given : {e : Key → Option Page} {z : StoreOf} → e ≡ d → z ≡ record y { bound = changed_in pid (one_page_range page) y.bound false; names = changed_in pid (one_page_range page) y.names None; report = rearranged y.report z.report } → GivenUp true pid (one_page_range page) n c e s z
    place_given {z = z} same after =
        let names : changed_in pid (one_page_range page) (without_names (λ k. owned && same_key k (own pid page)) s.names) None ≡ changed_in pid (one_page_range page) s.names None =
        fun_ext (λ q. ap (λ b. cond b None (cond (owned && same_key (own_key q) (own pid page)) None (s.names q))) (place_in_only pid page q)
        ∙ at_place owned (same_key (own_key q) (own pid page)) (s.names q)
        ∙ ap (λ b. cond b None (s.names q)) (sym (place_in_only pid page q))) in
        record {
          contents = same ∙ contents_now;
          store =
              after
              ∙ ap (λ (x : StoreOf). let made : StoreOf = record x { bound = changed_in pid (one_page_range page) x.bound false; names = changed_in pid (one_page_range page) x.names None; report = rearranged x.report z.report } in made) g.store
              ∙ (λ i. record s {
                bound = changed_in pid (one_page_range page) s.bound false;
                names = names i;
                paging = paging_now i;
                paging_keys = s.paging_keys - n;
                report = rearranged s.report z.report;
              });
        }

-- ---- one page more

-- two parts, one behind the other
pub given_two : (goes : Bool) {pid : Pid} {first second whole : Range} {n m k : ℕ} {c d e : Key → Option Page} {s z y : StoreOf} → ((j : Key) → is_key_in pid whole j ≡ (is_key_in pid second j || is_key_in pid first j)) → n + m ≡ k → GivenUp goes pid first n c d s z → GivenUp goes pid second m d e z y → GivenUp goes pid whole k c e s y
given_two goes {pid = pid} {first = first} {second = second} {whole = whole} {n = n} {m = m} {k = k} {c = c} {s = s} {y = y} more sum a b =
    let count : s.paging_keys - n - m ≡ s.paging_keys - k = omega (arith, sum) in
    record {
      contents = b.contents ∙ ap (without_keys (is_key_in pid second)) a.contents ∙ fun_ext (λ j. both_in None (c j) j);
      store =
          b.store
          ∙ ap (λ (x : StoreOf). let made : StoreOf = record x { bound = bound_by (places_by goes) pid second x.bound; names = changed_in pid second x.names None; paging = without_paging (is_key_in pid second) x.paging; paging_keys = x.paging_keys - m; report = rearranged x.report y.report } in made) a.store
          ∙ (λ i. record s {
            bound = bound goes i;
            names = fun_ext (λ q. both_in None (s.names q) (own_key q)) i;
            paging = fun_ext (λ j. both_in false (s.paging j) j) i;
            paging_keys = count i;
            report = rearranged s.report y.report;
          });
    }
  where
    both_in : {V : Type 0} (x o : V) (j : Key) → cond (is_key_in pid second j) x (cond (is_key_in pid first j) x o) ≡ cond (is_key_in pid whole j) x o
    both_in x o j = cond_twice (is_key_in pid second j) (is_key_in pid first j) x o ∙ ap (λ b. cond b x o) (sym (more j))

    bound : (b : Bool) → bound_by (places_by b) pid second (bound_by (places_by b) pid first s.bound) ≡ bound_by (places_by b) pid whole s.bound
    bound true = fun_ext (λ q. both_in false (s.bound q) (own_key q))
    bound false = refl

pub given_then : (goes : Bool) (pid : Pid) (range : Range) (n : ℕ) (f : ℕ → Bool) {c d e : Key → Option Page} {s z y : StoreOf} → GivenUp goes pid (first_pages range n) (owned_among f n) c d s z → GivenUp goes pid (one_page_range (range.first + n)) (cond (f n) 1 0) d e z y → GivenUp goes pid (first_pages range (n + 1)) (owned_among f (n + 1)) c e s y
given_then goes pid range n f {c = c} {e = e} {s = s} {y = y} a b =
    let more : suc n ≡ n + 1 = omega arith in
    subst (λ (n : ℕ). GivenUp goes pid (first_pages range n) (owned_among f n) c e s y) more (given_two goes (key_in_more pid range n) refl a b)

pub given_all : (goes : Bool) (pid : Pid) (range : Range) (n : ℕ) (f : ℕ → Bool) {c d : Key → Option Page} {s z : StoreOf} → n ≡ range.count → GivenUp goes pid (first_pages range n) (owned_among f n) c d s z → GivenUp goes pid range (owned_among f range.count) c d s z
given_all goes pid range n f {c = c} {d = d} {s = s} {z = z} all a = subst (λ (n : ℕ). GivenUp goes pid (first_pages range n) (owned_among f n) c d s z) all a

pub given_none : (goes : Bool) (pid : Pid) (range : Range) (c : Key → Option Page) (s : StoreOf) → GivenUp goes pid (first_pages range 0) 0 c c s s
given_none goes pid range c s =
    let count : s.paging_keys ≡ s.paging_keys - 0 = omega arith in
    record {
      contents = fun_ext (λ k. ap (λ b. cond b None (c k)) (sym (no_key_in pid range k)));
      store = λ i. record s {
        bound = bound goes i;
        names = fun_ext (λ q. ap (λ b. cond b None (s.names q)) (sym (no_place_in pid range q))) i;
        paging = fun_ext (λ k. ap (λ b. cond b false (s.paging k)) (sym (no_key_in pid range k))) i;
        paging_keys = count i;
        report = rearranged s.report s.report;
      };
    }
  where
    bound : (b : Bool) → s.bound ≡ bound_by (places_by b) pid (first_pages range 0) s.bound
    bound true = fun_ext (λ q. ap (λ b. cond b false (s.bound q)) (sym (no_place_in pid range q)))
    bound false = refl

-- places as they were, where none of these went
pub bound_out : (goes : Bool) (pid : Pid) (range : Range) (bound : Place → Bool) (q : Place) → is_place_in pid range q ≡ false → bound_by (places_by goes) pid range bound q ≡ bound q
bound_out true pid range bound q out = ap (λ b. cond b false (bound q)) out
bound_out false pid range bound q out = refl

pub next_can : (goes : Bool) (pid : Pid) (range : Range) (n k : ℕ) (rs : List (RegionOf (Unit {0}))) {c d : Key → Option Page} {s z : StoreOf} → CanRelease goes pid range rs c s → n < range.count → GivenUp goes pid (first_pages range n) k c d s z → CanGiveUp goes pid (range.first + n) (is_owned_at rs range.first n) d z
next_can goes pid range n k rs {c = c} {s = s} can few a =
    let page = range.first + n in
    let key = outside pid range n in
    let place : is_place_in pid (first_pages range n) (place_at pid page) ≡ false = key in
    record {
      live = ap (λ (f : Key → Option Page). is_some (f (own pid page))) a.contents ∙ ap (λ b. is_some (cond b None (c (own pid page)))) key ∙ can.live n few;
      paging = ap (λ (x : StoreOf). x.paging (own pid page)) a.store ∙ ap (λ b. cond b false (s.paging (own pid page))) key ∙ can.paging n few;
      bound = λ too. ap (λ (x : StoreOf). x.bound (place_at pid page)) a.store ∙ bound_out goes pid (first_pages range n) s.bound (place_at pid page) place ∙ can.bound too page (next_held range n few);
      named = λ stays dead. ap (λ (x : StoreOf). x.names (place_at pid page)) a.store ∙ ap (λ b. cond b None (s.names (place_at pid page))) place ∙ can.named stays n few dead;
      unbinding = ap (λ (x : StoreOf). x.kind) a.store ∙ can.unbinding;
    }

-- ---- the whole range

-- as many keys go as there are
pub as_many : (goes : Bool) (pid : Pid) (range : Range) (rs : List (RegionOf (Unit {0}))) {c d : Key → Option Page} {s z : StoreOf} → CanRelease goes pid range rs c s → GivenUp goes pid range (owned_among (is_owned_at rs range.first) range.count) c d s z → GivenUp goes pid range (passing (is_page_live pid c) range.first range.count) c d s z
as_many goes pid range rs {c = c} {d = d} {s = s} {z = z} can a =
    subst (λ (n : ℕ). GivenUp goes pid range n c d s z)
    (owned_same (is_owned_at rs range.first) (λ i. is_page_live pid c (range.first + i)) range.count (λ i few. sym (can.live i few))
    ∙ owned_passing (is_page_live pid c) range.first range.count) a

module _ {goes : Bool} {pid : Pid} {range : Range} {n : ℕ} {c d : Key → Option Page} {s z : StoreOf} (a : GivenUp goes pid range n c d s z) where
  pub given_less : Less c d
  given_less k some =
      let gone = ap (λ (f : Key → Option Page). f k) a.contents in
      gone ∙ gone_same (is_key_in pid range k) (c k) (sym (ap is_some gone) ∙ some)

  -- the same in the words of calls on regions
  pub stored : RangeStored pid range Ends (places_by goes) true c d s z
  stored =
      subst (λ (z : StoreOf). RangeStored pid range Ends (places_by goes) true c d s z) (sym a.store)
      (record { contents = a.contents; paging = refl; bound = refl; names = refl; open_same = refl; areas_same = refl; same = refl })
