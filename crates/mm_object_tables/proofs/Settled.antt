-- What a store that fits the tables allows to be done to a range of a process.
use Rattle.std.proofs.Common.{◌≡◌, ◌≤◌, ◌+◌, ◌-◌, ℕ, zero, suc, Bool, true, false, Option, Some, None, List, [], ◌∷◌, refl, sym, ◌∙◌, ap, subst, arith, length, slice_get, is_some, ◌&&◌, ◌||◌, not, nat_le, take, drop, count_by, sum_by, option_map, unwrap_or, set}
use Rattle.std.proofs.Math.Path.{fun_ext}
use Rattle.std.specs.Prelude.{◌==◌, option_and_then, remove, ◌%◌, Result}
use Rattle.std.specs.List.{list_any}
use Rattle.std.proofs.lemmas.Bool.{leb-true}
use Rattle.std.proofs.lemmas.List.{take_all}
use Rattle.std.proofs.lemmas.List.Sums.{sum_by-cons}
use Rattle.std.proofs.lemmas.Option.{get_or_from_slice_get}
use Rattle.mm_types.specs.declared.moves.LineKind.TheVariants as kind
use Rattle.mm_types.specs.{Kind, Key, Pid, Range, meets, is_free, address_of, end_of, holds_page, lies_within, first_user_page, end_of_user_pages}
use Rattle.mm_types.specs.{limit_of, NoMemory}
use Rattle.mm_types.specs.declared.views.Kind.TheVariants as kind'
use Rattle.mm_types.specs.declared.numbers.Key.TheVariants as key
use Rattle.mm_types.proofs.{or_true, none_of, some_found, same_found, on_err}
use Rattle.mm_world.specs.{Page, ProcessOf, RegionOf, RowOf, pages_of, row_at, is_committed, is_committed_at, every_page, is_protection_among}
use Rattle.mm_world.specs.{private_protections, reserved_row, commit, protected, change_rows, accepts, Found, first_where, process_of, region_with}
use Rattle.mm_world.specs.{region_around, ranges_of, is_private, set_region, set_regions, add_region, private_at, charge, is_charged, region_charge}
use Rattle.mm_world.specs.{process_charge, own_page, private_key, Tables, blank, RowFits, RowsFit, IsSpace, private_region}
use Rattle.mm_world.specs.WellFormed.{WellFormed}
use Rattle.mm_world.proofs.{each-at, every_page-at, is_placed, same_place, found_stands, own_in, charge-set_region, private_kind, and-true, or-false}
use Rattle.mm_world.proofs.{laid_at, apart_too, holds_first, lies, rows_committed, rows_cleared, rows_protected}
use Rattle.mm_store.specs.{place_at, StoreOf, Ghosts as PageStoreGhosts, AreAmong, leaving, page_rank}
use Rattle.mm_address_spaces.specs.{owned_in, rows_of_range}
use Rattle.mm_object_tables.specs.{CanMake, key_in, Effect, Makes, Ends, Leaves, RangeStored, Moves, Roomier, keys_of, FitsTables, key_at, new_pages}
use Rattle.mm_object_tables.specs.{new_marks, paging_count, owned_keys, CarriesPages, Settled, store_beside, CanRelease, GivenUp, CanAdd, passing}
use Rattle.mm_object_tables.specs.{is_page_live, is_page_dead, SettlesTables, is_uncommitted, GivesUpPages, Frees}
use Rattle.mm_object_tables.proofs.Lists.{found-cons, one_if}
use Rattle.mm_object_tables.proofs.Rows.{private_paging, moved, carries_by, carries_same, own_rows, paging-remove_region, regions_of_process, reserved_is, content_is, home_key, region_key, key_in_has, key_at_is, private_home, has_at, holds, Inside, inside, has_own, in_range, holds_too, passing_owned, private_charge, charge_of_commit}
use Rattle.mm_object_tables.proofs.PageByPage.{passing_all, next_held, stored}
use Rattle.mm_object_tables.proofs.Regional.{allowed, one_or_other, is_clear, change_stands, change_moves, commit_moves, decommit_charge, paging_as_charge, protect_count, protect_moves, protect_paging, release_moves, release_charge, release_stands, reserve_moves, reserve_charge, reserve_paging, reserve_stands}
use Rattle.mm_object_tables.proofs.Keeping.{StandIn}

pub found_there : {A : Type 0} (test : A → Bool) (xs : List A) (i : ℕ) (x : A) → slice_get xs i ≡ Some x → test x ≡ true → is_some (first_where test xs) ≡ true
found_there test [] i x at e = cc
found_there test (y ∷ xs) zero x at e =
    let same : y ≡ x = cc in
    found-cons test y xs ∙ ap (λ b. b || is_some (first_where test xs)) (ap test same ∙ e)
found_there test (y ∷ xs) (suc i) x at e =
    found-cons test y xs ∙ ap (λ b. test y || b) (found_there test xs i x at e) ∙ or_true (test y)

pub passing_both : (test : ℕ → Bool) (first n : ℕ) → passing test first n + passing (λ page. not (test page)) first n ≡ n
passing_both test first zero = refl
passing_both test first (suc n) = omega (arith, passing_both test first n, one_or_other (test (first + n)))

-- ---- no more page-file keys than pages are charged

sum_few : {A : Type 0} (f g : A → ℕ) (xs : List A) → ((i : ℕ) (x : A) → slice_get xs i ≡ Some x → f x ≤ g x) → sum_by f xs ≤ sum_by g xs
sum_few f g [] h = omega arith
sum_few f g (x ∷ xs) h = omega (arith, sum_by-cons f x xs, sum_by-cons g x xs, h 0 x refl, sum_few f g xs (λ i. h (suc i)))

row_few : (k : Kind) (row : RowOf (Unit {0})) → RowFits k row → one_if (has_own row) ≤ one_if (is_charged k row)
row_few kind'.Private row fits = omega arith
row_few (kind'.View v) row fits = by_two (is_some row.own) row.marked fits.copied
  where
    by_two : (a b : Bool) → (a ≡ true → b ≡ true) → one_if a ≤ one_if b
    by_two true b f = omega (arith, ap one_if (f refl))
    by_two false b f = omega arith

process_few : (o : Option (ProcessOf (Unit {0}))) → ((p : ProcessOf (Unit {0})) → o ≡ Some p → IsSpace p.regions) → owned_keys o ≤ process_charge o
process_few None h = omega arith
process_few (Some p) h =
    sum_few own_rows region_charge p.regions (λ i r at.
    sum_few (λ (row : RowOf (Unit {0})). one_if (has_own row)) (λ (row : RowOf (Unit {0})). one_if (is_charged r.kind row)) r.rows (λ j row there.
    row_few r.kind row (each-at (RowFits r.kind) r.rows j row (each-at RowsFit p.regions i r (h p refl).rows at) there)))

pub paging_few : (t : Tables) → WellFormed t → paging_count t ≤ charge t
paging_few t h =
    omega (arith, sum_few owned_keys process_charge t.processes (λ pid o at. process_few o (λ p e. h.spaces pid p (get_or_from_slice_get t.processes pid o None at ∙ e))))

-- ---- a process

module _ (t : Tables) (pid : Pid) (p : ProcessOf (Unit {0})) (c : Key → Option Page) (s : StoreOf) (lives : process_of t pid.0 ≡ Some p) (h : WellFormed t) (f : FitsTables t c s) where
  pub live_is : (page : ℕ) → is_page_live pid c page ≡ is_some (own_page p.regions page)
  live_is page =
      f.live (key.Private pid (record { 0 = page })) ∙ ap is_some (content_is t pid.0 page) ∙ ap (λ rs. is_some (own_page rs page)) (regions_of_process t pid.0 p lives)

  pub bound_is : (page : ℕ) → s.bound (place_at pid page) ≡ is_some (region_with p.regions page)
  bound_is page = f.bound (place_at pid page) ∙ reserved_is t (place_at pid page) ∙ ap (λ rs. is_some (region_with rs page)) (regions_of_process t pid.0 p lives)

  module _ (i : ℕ) (r : RegionOf (Unit {0})) (range : Range) (at : slice_get p.regions i ≡ Some r) (inside : Inside range (pages_of r)) where
    pub ends : end_of range ≤ end_of_user_pages
    ends =
        let placed = is_placed t pid.0 i p r h lives at in
        let user = and-true (nat_le first_user_page r.base) (nat_le (end_of (pages_of r)) end_of_user_pages) placed.1 in
        omega (arith, leb-true _ _ user.1, inside.high)

    pub bound_in : (page : ℕ) → holds_page range page ≡ true → s.bound (place_at pid page) ≡ true
    bound_in page e =
        bound_is page ∙ found_there (λ (r : RegionOf (Unit {0})). holds_page (pages_of r) page) p.regions i r at (holds_too range (pages_of r) page inside e)

    pub live_count : passing (is_page_live pid c) range.first range.count ≡ count_by has_own (in_range range r)
    live_count =
        ap (λ test. passing test range.first range.count) (fun_ext live_is)
        ∙ passing_owned first_user_page i p.regions r range range.count (h.spaces pid.0 p lives).laid_out at inside (omega arith)

    module _ (private : is_private r.kind ≡ true) where
      -- a private page names its own key where it has bytes
      by_row : (page : ℕ) (o : Option (RowOf (Unit {0}))) → option_and_then (λ row. home_key t pid.0 page (page - r.base) r.kind row.own) o ≡ option_map (λ (x : Unit {0}). private_key pid.0 page) (option_and_then (λ (row : RowOf (Unit {0})). row.own) o)
      by_row page None = refl
      by_row page (Some row) = private_home t pid.0 page (page - r.base) r.kind row.own private

      pub uncommitted_is : (page : ℕ) → holds_page range page ≡ true → is_page_live pid c page ≡ false → key_at t (place_at pid page) ≡ None
      uncommitted_is page held dead =
          let laid = (h.spaces pid.0 p lives).laid_out in
          let in_r = holds_too range (pages_of r) page inside held in
          let own = has_at (λ (r : RegionOf (Unit {0})). own_in r page) first_user_page i page p.regions r laid at in_r in
          let none : own_in r page ≡ None = none_of (own_in r page) (ap is_some (sym own) ∙ sym (live_is page) ∙ dead) in
          key_at_is t (place_at pid page) ∙ ap (λ rs. key_in t pid.0 rs page) (regions_of_process t pid.0 p lives) ∙ key_in_has t pid.0 p.regions page
          ∙ has_at (region_key t pid.0 page) first_user_page i page p.regions r laid at in_r ∙ by_row page (row_at r page) ∙ ap (option_map (λ (x : Unit {0}). private_key pid.0 page)) none

      unnamed_is : (page : ℕ) → holds_page range page ≡ true → is_page_live pid c page ≡ false → s.names (place_at pid page) ≡ None
      unnamed_is page held dead =
          elim (s.names (place_at pid page)) as (λ o. s.names (place_at pid page) ≡ o → o ≡ None)
          [ None ↦ λ e. refl | Some k ↦ λ e. sym (f.named (place_at pid page) k e) ∙ uncommitted_is page held dead ] refl

      pub can_add : (n : ℕ) → n + count_by has_own (in_range range r) ≡ range.count → charge t + n ≤ s.room → s.kind ≡ kind.Call → CanAdd pid range p.regions c s
      can_add n counted room called =
          record {
            live = λ page e. live_is page;
            bound = bound_in;
            named = λ page e dead. unnamed_is page e dead;
            paging = λ page e. private_paging t c s pid (record { 0 = page }) f;
            room = omega (arith, counted, room, f.counted, paging_few t h, live_count, passing_both (is_page_live pid c) range.first range.count);
            called = called;
          }

    -- its places go, or stay where the region is private
    pub can_release : (goes : Bool) → (goes ≡ false → is_private r.kind ≡ true) → s.kind ≡ kind.Unbind pid → CanRelease goes pid range p.regions c s
    can_release goes private unbinding =
        record {
          live = λ k few. live_is (range.first + k);
          paging = λ k few. private_paging t c s pid (record { 0 = range.first + k }) f ∙ live_is (range.first + k);
          bound = λ too page held. bound_in page held;
          named = λ stays k few dead. unnamed_is (private stays) (range.first + k) (next_held range k few) (live_is (range.first + k) ∙ dead);
          unbinding = unbinding;
        }

-- the region around a range
pub record IsAround (rs : List (RegionOf (Unit {0}))) (range : Range) (r : Found (RegionOf (Unit {0}))) : Type 0 where
  pub at : slice_get rs r.place ≡ Some r.thing
  pub inside : Inside range (pages_of r.thing)
  pub owned : owned_in rs range ≡ count_by has_own (in_range range r.thing)

pub around : (rs : List (RegionOf (Unit {0}))) (range : Range) (r : Found (RegionOf (Unit {0}))) → region_around rs range ≡ Some r → IsAround rs range r
around rs range r e =
    let stands = found_stands (λ (r : RegionOf (Unit {0})). lies_within range (pages_of r)) rs r e in
    record {
      at = stands.there;
      inside = inside range (pages_of r.thing) stands.passes;
      owned = ap (λ o. count_by has_own (rows_of_range range o)) e;
    }

-- regions lie apart, so the one that has a range is found around it
module _ (t : Tables) (pid : ℕ) (p : ProcessOf (Unit {0})) (i : ℕ) (r : RegionOf (Unit {0})) (range : Range) (lives : process_of t pid ≡ Some p) (h : WellFormed t) (at : slice_get p.regions i ≡ Some r) (inner : Inside range (pages_of r)) (some : 1 ≤ range.count) where
  pub is_around : is_some (region_around p.regions range) ≡ true
  is_around = found_there (λ (r : RegionOf (Unit {0})). lies_within range (pages_of r)) p.regions i r at (lies range (pages_of r) inner)

  pub around_is : region_around p.regions range ≡ Some (record { place = i; thing = r })
  around_is =
      let q = some_found (region_around p.regions range) is_around in
      let a = around p.regions range q.0 q.1 in
      let place : q.0.place ≡ i =
      same_place t pid range.first q.0.place i p q.0.thing r h lives a.at at (holds_first range (pages_of q.0.thing) a.inside some) (holds_first range (pages_of r) inner some) in
      let thing : q.0.thing ≡ r = same_found (slice_get p.regions i) q.0.thing r (ap (slice_get p.regions) (sym place) ∙ a.at) at in
      q.1 ∙ (λ j. Some (record { place = place j; thing = thing j }))

-- the region that begins at an address
pub record Begins (rs : List (RegionOf (Unit {0}))) (r : Found (RegionOf (Unit {0}))) : Type 0 where
  pub at : slice_get rs r.place ≡ Some r.thing
  pub private : is_private r.thing.kind ≡ true

pub begins : (rs : List (RegionOf (Unit {0}))) (addr : ℕ) (r : Found (RegionOf (Unit {0}))) → private_at rs addr ≡ Some r → Begins rs r
begins rs addr r e =
    let stands = found_stands (λ (r : RegionOf (Unit {0})). is_private r.kind && (address_of r.base == addr)) rs r e in
    record { at = stands.there; private = (and-true (is_private r.thing.kind) (address_of r.thing.base == addr) stands.passes).0 }

pub whole_range : (r : RegionOf (Unit {0})) → in_range (pages_of r) r ≡ r.rows
whole_range r =
    ap (λ (k : ℕ). take (length r.rows) (drop k r.rows)) (let none : r.base - r.base ≡ 0 = omega arith in none) ∙ take_all (length r.rows) r.rows (omega arith)

pub whole_inside : (r : RegionOf (Unit {0})) (range : Range) → pages_of r ≡ range → Inside range (pages_of r)
whole_inside r range e = subst (λ (range : Range). Inside range (pages_of r)) e (record { low = omega arith; high = omega arith })

-- what is found is found with its pages
pub pages_found : (o : Option (Found (RegionOf (Unit {0})))) (range : Range) → option_map (λ (r : Found (RegionOf (Unit {0}))). pages_of r.thing) o ≡ Some range → (r : Found (RegionOf (Unit {0}))) × ((o ≡ Some r) × (pages_of r.thing ≡ range))
pages_found None range e = cc
pages_found (Some r) range e = (r, (refl, (let same : pages_of r.thing ≡ range = cc in same)))

-- where each page of the range is committed, all rows of the range have bytes of their own
module _ (t : Tables) (pid : ℕ) (p : ProcessOf (Unit {0})) (i : ℕ) (r : RegionOf (Unit {0})) (range : Range) (lives : process_of t pid ≡ Some p) (h : WellFormed t) (at : slice_get p.regions i ≡ Some r) (inner : Inside range (pages_of r)) (private : is_private r.kind ≡ true) where
  by_own : (o : Option (RowOf (Unit {0}))) (k : Kind) (j : ℕ) → is_private k ≡ true → unwrap_or (option_map (is_committed t k j) o) false ≡ is_some (option_and_then (λ (row : RowOf (Unit {0})). row.own) o)
  by_own None k j e = refl
  by_own (Some row) k j e = ap (λ k. is_committed t k j row) (private_kind k e)

  pub all_owned : every_page (is_committed_at t r) range ≡ true → count_by has_own (in_range range r) ≡ range.count
  all_owned all =
      sym (passing_owned first_user_page i p.regions r range range.count (h.spaces pid p lives).laid_out at inner (omega arith))
      ∙ passing_all (λ page. is_some (own_page p.regions page)) range.first range.count (λ j few.
      let page = range.first + j in
      let held : holds_page (pages_of r) page ≡ true = holds (pages_of r) page (omega (arith, inner.low)) (omega (arith, inner.high, few)) in
      ap is_some (has_at (λ (r : RegionOf (Unit {0})). own_in r page) first_user_page i page p.regions r (h.spaces pid p lives).laid_out at held)
      ∙ sym (by_own (row_at r page) r.kind (page - r.base) private)
      ∙ every_page-at (is_committed_at t r) range.first range.count page all (omega arith) (omega (arith, few)))

-- ---- free pages

free_page : (rs : List (RegionOf (Unit {0}))) (range : Range) (page : ℕ) → list_any (meets range) (ranges_of rs) ≡ false → holds_page range page ≡ true → is_some (region_with rs page) ≡ false
free_page [] range page free held = refl
free_page (r ∷ rs) range page free held =
    let h = or-false (meets range (pages_of r)) (list_any (meets range) (ranges_of rs)) free in
    found-cons (λ (r : RegionOf (Unit {0})). holds_page (pages_of r) page) r rs
    ∙ ap (λ b. b || is_some (region_with rs page)) (apart_too range (pages_of r) page h.0 held) ∙ free_page rs range page h.1 held

pub can_make : (t : Tables) (pid : Pid) (p : ProcessOf (Unit {0})) (c : Key → Option Page) (s : StoreOf) → process_of t pid.0 ≡ Some p → WellFormed t → FitsTables t c s → (range : Range) (type total : ℕ) → is_free (ranges_of p.regions) range ≡ true → charge t + new_pages type range ≤ total → total ≤ limit_of s.machine → s.kind ≡ kind.Call → CanMake pid range type total p.regions c s
can_make t pid p c s lives h f range type total free room within called =
    record {
      live = λ page e. live_is t pid p c s lives h f page;
      dead = λ page e. ap (λ o. is_some (option_and_then (λ (r : Found (RegionOf (Unit {0}))). own_in r.thing page) o)) (none_of (region_with p.regions page) (free_page p.regions range page (is_clear p.regions range free) e));
      opened = f.opened pid.0 ∙ ap is_some lives;
      unbound = λ page e. bound_is t pid p c s lives h f page ∙ free_page p.regions range page (is_clear p.regions range free) e;
      paging = λ page e. private_paging t c s pid (record { 0 = page }) f;
      few = omega (arith, f.counted, paging_few t h, room);
      within = within;
      called = called;
    }

-- a whole region
module _ (t : Tables) (pid : ℕ) (p : ProcessOf (Unit {0})) (i : ℕ) (r : RegionOf (Unit {0})) (range : Range) (lives : process_of t pid ≡ Some p) (h : WellFormed t) (at : slice_get p.regions i ≡ Some r) (pages : pages_of r ≡ range) where
  pub some_pages : 1 ≤ range.count
  some_pages = omega (arith, (laid_at first_user_page p.regions i r (h.spaces pid p lives).laid_out at).some, ap (λ (range : Range). range.count) pages)

  pub whole_owned : owned_in p.regions range ≡ own_rows r
  whole_owned =
      ap (λ o. count_by has_own (rows_of_range range o)) (around_is t pid p i r range lives h at (whole_inside r range pages) some_pages)
      ∙ ap (λ (range : Range). count_by has_own (in_range range r)) (sym pages) ∙ ap (count_by has_own) (whole_range r)

-- ---- nothing but room

pub roomier_beside : (c d : Key → Option Page) (s z : StoreOf) → Roomier c d s z → z ≡ store_beside s z
roomier_beside c d s z h = h.store ∙ ap (store_beside s) (sym h.store)

pub fits_more : (t : Tables) (c : Key → Option Page) (s : StoreOf) (n : ℕ) → FitsTables t c s → s.room ≤ n → FitsTables t c (record s { room = n })
fits_more t c s n f more =
    let room : charge t ≤ n = omega (arith, f.room, more) in
    assumption room

pub roomier_settled : {t after : Tables} {c d : Key → Option Page} {s z : StoreOf} → FitsTables t c s → after ≡ t → Roomier c d s z → Settled after c d s z
roomier_settled {t} {after} {c} {d} {s} {z} f same r =
    record {
      fits = subst (λ (t : Tables). FitsTables t d z) (sym same) (subst (λ (z : StoreOf). FitsTables t d z) (sym r.store) (subst (λ (d : Key → Option Page). FitsTables t d (record s { room = z.room })) (sym r.contents) (fits_more t c s z.room f r.later)));
      carries = carries_same c d r.contents;
      rest = roomier_beside c d s z r;
    }

-- room was had before
pub settled_then : {t : Tables} {c d e : Key → Option Page} {s y z : StoreOf} → Roomier c d s y → Settled t d e y z → Settled t c e s z
settled_then {e = e} {z = z} more h =
    record { fits = h.fits; carries = subst (λ (c : Key → Option Page). CarriesPages c e) more.contents h.carries; rest = h.rest ∙ ap (λ (x : StoreOf). store_beside x z) more.store }

-- memory ran out
pub out_of_memory : {G : Type 0} (gs : PageStoreGhosts G) {T : Type 0} (result : Result T NoMemory) {old new : Tables} {g h : G} → FitsTables old (gs.contents g) (gs.store g) → new ≡ old → Roomier (gs.contents g) (gs.contents h) (gs.store g) (gs.store h) → SettlesTables gs result old new g h
out_of_memory gs result fits same more = record { err = on_err result (same, more.contents); settled = roomier_settled fits same more }

-- both change together: pages of a range of a process go
pub frees : {G : Type 0} (gs : PageStoreGhosts G) {goes : Bool} {pid : Pid} {range : Range} {old new : Tables} {g h : G} → Settled new (gs.contents g) (gs.contents h) (gs.store g) (gs.store h) → AreAmong (leaving old pid.0 (is_uncommitted new)) 1 (page_rank end_of_user_pages) pid range → GivesUpPages gs goes pid range g h → Frees gs pid range old new g h
frees gs settled among gives = record { settled = settled; among = among; passes = gives.passes; loans = gives.loans }

pub settled_as : {t after : Tables} {c d : Key → Option Page} {s z : StoreOf} → after ≡ t → Settled t c d s z → Settled after c d s z
settled_as {t} {after} {c} {d} {s} {z} same h = subst (λ (t : Tables). Settled t c d s z) (sym same) h

pub settled_by : (t : Tables) (pid : Pid) (p : ProcessOf (Unit {0})) (range : Range) (keys places : Effect) (clears : Bool) (ss : List (RegionOf (Unit {0}))) (c d : Key → Option Page) (s z : StoreOf) → process_of t pid.0 ≡ Some p → FitsTables t c s → RangeStored pid range keys places clears c d s z → Moves t pid range keys places clears p.regions ss → z.paging_keys ≡ paging_count (set_regions t pid.0 p ss) → charge (set_regions t pid.0 p ss) ≤ z.room → Settled (set_regions t pid.0 p ss) c d s z
settled_by t pid p range keys places clears ss c d s z lives f stored moves counted room =
    record {
      fits = moved t pid p range keys places clears ss c d s z lives f stored moves counted room;
      carries = subst (λ (e : Key → Option Page). CarriesPages c e) (sym stored.contents) (carries_by keys pid range c);
      rest = stored.same;
    }

-- what a step makes of the regions of a process, and that the store is settled
pub record Done (t : Tables) (pid : Pid) (p : ProcessOf (Unit {0})) (ss : List (RegionOf (Unit {0}))) (total : ℕ) (c d : Key → Option Page) (s z : StoreOf) : Type 0 where
  pub stands : StandIn t p.regions ss
  pub charged : charge (set_regions t pid.0 p ss) ≡ total
  pub settled : Settled (set_regions t pid.0 p ss) c d s z

module _ (t : Tables) (pid : Pid) (p : ProcessOf (Unit {0})) (range : Range) (c d : Key → Option Page) (s z : StoreOf) (lives : process_of t pid.0 ≡ Some p) (h : WellFormed t) (f : FitsTables t c s) where
  done : (keys places : Effect) (clears : Bool) (ss : List (RegionOf (Unit {0}))) (total : ℕ) → StandIn t p.regions ss → Moves t pid range keys places clears p.regions ss → RangeStored pid range keys places clears c d s z → charge (set_regions t pid.0 p ss) ≡ total → z.paging_keys ≡ paging_count (set_regions t pid.0 p ss) → total ≤ z.room → Done t pid p ss total c d s z
  done keys places clears ss total stands moves stored charged counted room =
      record {
        stands = stands;
        charged = charged;
        settled = settled_by t pid p range keys places clears ss c d s z lives f stored moves counted (omega (arith, charged, room));
      }

  pub commit_done : (r : Found (RegionOf (Unit {0}))) (prot n : ℕ) → region_around p.regions range ≡ Some r → is_private r.thing.kind ≡ true → is_protection_among private_protections prot ≡ true → n + owned_in p.regions range ≡ range.count → RangeStored pid range Makes Leaves false c d s z → z.paging_keys ≡ s.paging_keys + passing (is_page_dead pid c) range.first range.count → charge t + n ≤ z.room → Done t pid p (set p.regions r.place (change_rows (commit tt prot) range r.thing)) (charge t + n) c d s z
  commit_done r prot n found private e counted stored used more =
      let a = around p.regions range r found in
      let new = change_rows (commit tt prot) range r.thing in
      let total : charge (set_region t pid.0 p r.place new) ≡ charge t + n =
      omega (arith, charge-set_region t pid.0 p r.place r.thing new lives a.at, charge_of_commit (commit tt prot) (λ row. refl) range r.thing private a.inside, counted, a.owned) in
      let keys = paging_as_charge t pid.0 p r.place r.thing range lives h a.at a.inside private (commit tt prot) in
      let live = live_count t pid p c s lives h f r.place r.thing range a.at a.inside in
      done Makes Leaves false (set p.regions r.place new) (charge t + n)
      (change_stands t pid.0 p r.place r.thing range lives h a.at a.inside (commit tt prot) (λ fit. rows_committed tt r.thing prot range (private_kind r.thing.kind private) fit a.inside.low (allowed prot e)))
      (commit_moves t pid.0 p r.place r.thing range lives h a.at a.inside private pid prot refl) stored total
      (omega (arith, keys, total, used, f.counted, counted, a.owned, live, passing_both (is_page_live pid c) range.first range.count)) more

  pub decommit_done : (i : ℕ) (r : RegionOf (Unit {0})) → slice_get p.regions i ≡ Some r → Inside range (pages_of r) → is_private r.kind ≡ true → GivenUp false pid range (passing (is_page_live pid c) range.first range.count) c d s z → Done t pid p (set p.regions i (change_rows (λ row. reserved_row) range r)) (charge t - count_by has_own (in_range range r)) c d s z
  decommit_done i r at inside private a =
      let after = decommit_charge t pid.0 p i r range lives h at inside private in
      let keys = paging_as_charge t pid.0 p i r range lives h at inside private (λ row. reserved_row) in
      let live = live_count t pid p c s lives h f i r range at inside in
      done Ends Leaves true (set p.regions i (change_rows (λ row. reserved_row) range r)) (charge t - count_by has_own (in_range range r))
      (change_stands t pid.0 p i r range lives h at inside (λ row. reserved_row) (λ fit. rows_cleared r range (private_kind r.kind private) fit inside.low))
      (change_moves t pid.0 p i r range lives h at inside (λ row. reserved_row) Ends true pid (λ row. refl) (λ v k clear held. let bad : true ≡ false = sym held ∙ clear refl in cc)) (stored a) (omega (arith, after))
      (omega (arith, keys, after, ap (λ (x : StoreOf). x.paging_keys) a.store, f.counted, live)) (omega (arith, ap (λ (x : StoreOf). x.room) a.store, f.room))

  -- neither keys nor places change
  pub protect_done : (r : Found (RegionOf (Unit {0}))) (prot : ℕ) → region_around p.regions range ≡ Some r → every_page (is_committed_at t r.thing) range ≡ true → every_page (accepts r.thing prot) range ≡ true → Roomier c d s z → charge t + new_marks p.regions range prot ≤ z.room → Done t pid p (set p.regions r.place (change_rows (protected r.thing.kind prot) range r.thing)) (charge t + new_marks p.regions range prot) c d s z
  protect_done r prot found there takes more room =
      let a = around p.regions range r found in
      let new = change_rows (protected r.thing.kind prot) range r.thing in
      done Leaves Leaves false (set p.regions r.place new) (charge t + new_marks p.regions range prot)
      (change_stands t pid.0 p r.place r.thing range lives h a.at a.inside (protected r.thing.kind prot) (λ fit. rows_protected t r.thing prot range fit a.inside.low there takes))
      (protect_moves t pid.0 p r.place r.thing range lives h a.at a.inside pid prot)
      (record {
        contents = more.contents;
        paging = ap (λ (x : StoreOf). x.paging) more.store;
        bound = ap (λ (x : StoreOf). x.bound) more.store;
        names = ap (λ (x : StoreOf). x.names) more.store;
        open_same = ap (λ (x : StoreOf). x.is_open) more.store;
        areas_same = ap (λ (x : StoreOf). x.areas) more.store;
        same = roomier_beside c d s z more;
      })
      (omega (arith, charge-set_region t pid.0 p r.place r.thing new lives a.at, protect_count p.regions range r prot found))
      (ap (λ (x : StoreOf). x.paging_keys) more.store ∙ f.counted ∙ sym (protect_paging t pid.0 p r.place r.thing range lives h a.at a.inside prot)) room

  -- a region is given up with all its pages
  pub region_gone : (i : ℕ) (r : RegionOf (Unit {0})) → slice_get p.regions i ≡ Some r → pages_of r ≡ range → GivenUp true pid range (passing (is_page_live pid c) range.first range.count) c d s z → Settled (set_regions t pid.0 p (remove p.regions i)) c d s z
  region_gone i r at pages a =
      let live : passing (is_page_live pid c) range.first range.count ≡ own_rows r =
      live_count t pid p c s lives h f i r range at (whole_inside r range pages) ∙ ap (λ (range : Range). count_by has_own (in_range range r)) (sym pages) ∙ ap (count_by has_own) (whole_range r) in
      settled_by t pid p range Ends Ends true (remove p.regions i) c d s z lives f (stored a)
      (subst (λ (range : Range). Moves t pid range Ends Ends true p.regions (remove p.regions i)) pages (release_moves t pid.0 p i r lives h at pid))
      (omega (arith, paging-remove_region t pid.0 p i r lives at, ap (λ (x : StoreOf). x.paging_keys) a.store, f.counted, live))
      (omega (arith, release_charge t pid.0 p i r lives h at, ap (λ (x : StoreOf). x.room) a.store, f.room))

  pub release_done : (i : ℕ) (r : RegionOf (Unit {0})) → slice_get p.regions i ≡ Some r → pages_of r ≡ range → is_private r.kind ≡ true → GivenUp true pid range (passing (is_page_live pid c) range.first range.count) c d s z → Done t pid p (remove p.regions i) (charge t - own_rows r) c d s z
  release_done i r at pages private a =
      record {
        stands = release_stands t pid.0 p i r lives h at private;
        charged = omega (arith, release_charge t pid.0 p i r lives h at, private_charge r private);
        settled = region_gone i r at pages a;
      }

  pub reserve_done : (watched : Bool) (type prot : ℕ) → is_free (ranges_of p.regions) range ≡ true → range.first % 16 ≡ 0 → 1 ≤ range.count → is_protection_among private_protections prot ≡ true → RangeStored pid range (keys_of type) Makes true c d s z → z.paging_keys ≡ s.paging_keys + new_pages type range → charge t + new_pages type range ≤ z.room → Done t pid p (add_region (private_region blank watched type prot range) p.regions) (charge t + new_pages type range) c d s z
  reserve_done watched type prot free granule some e stored used more =
      done (keys_of type) Makes true (add_region (private_region blank watched type prot range) p.regions) (charge t + new_pages type range)
      (reserve_stands t pid.0 p watched type prot range lives free granule some e) (reserve_moves t pid.0 p watched type prot range lives free pid) stored
      (reserve_charge t pid.0 p watched type prot range lives free) (omega (arith, reserve_paging t pid.0 p watched type prot range lives free, used, f.counted)) more
