-- The region around a range, the one at an address, what a view has of its section, and what changes of rows are charged.
use Rattle.std.proofs.Common.{◌≡◌, ◌≤◌, ◌-◌, ℕ, zero, suc, Bool, true, false, Option, Some, None, List, [], ◌∷◌, refl, sym, ◌∙◌, ap, subst, cond, arith, slice_get, is_some, nat_le, ◌&&◌, option_map, take, drop, count_by, ◌<◌, ◌+◌, length, is_none, not, unwrap_or}
use Rattle.std.specs.Prelude.{◌==◌}
use Rattle.std.proofs.lemmas.Bool.{leb-true}
use Rattle.std.proofs.lemmas.Option.{slice_get-get_or, unwrap_or-slice_get}
use Rattle.std.specs.Cmp.{unsigned_Decides}
use Rattle.std.proofs.lemmas.List.Sums.{sum_by-cons, count_by-le-length}
use Rattle.mm_types.specs.{Range, address_of, end_of, end_of_user_pages, first_user_page, lies_within, View, Kind, base_of}
use Rattle.mm_types.proofs.{and_true, not_true}
use Rattle.mm_types.specs.declared.views.Kind.TheVariants as kind
use Rattle.mm_world.specs.{WorldOf, ProcessOf, RegionOf, RowOf, pages_of, Found, first_where, one_later, process_of, region_around, is_private}
use Rattle.mm_world.specs.{private_at, private_around, AreaOf, area_at, no_area, Tables, RegionRefers, ViewFits, set_region, set_area, commit_shared}
use Rattle.mm_world.specs.{charge, area_charge, blank, is_one_of, is_protection_among, private_protections, protected, commit, change_rows}
use Rattle.mm_world.specs.WellFormed.{WellFormed}
use Rattle.mm_world.proofs.{same_place, is_placed, found_stands, and-true, laid_at, inside, holds_first, Inside, lies, each-at, charge-set_region}
use Rattle.mm_world.proofs.{sum_by-put}
use Rattle.mm_sections.specs.{number_of_block, uncommitted_in}
use Rattle.mm_address_spaces.specs.{RegionInfo, found_info, owned_in, rows_of_range, unmarked_in}
use Rattle.mm_object_tables.specs.{newly_marked, new_marks}
use Rattle.mm_object_tables.proofs.{one_if, count-change_range, count-all, length-range, allowed, one_or_other, protect_count}
use Rattle.mm_object_tables.proofs.Lists.{counted}
use Rattle.mm_object_tables.proofs.Rows as rows

-- what was told was told of something
pub mapped : {A C : Type 0} (f : A → C) (o : Option A) (y : C) → option_map f o ≡ Some y → (x : A) × ((o ≡ Some x) × (f x ≡ y))
mapped f None y e = cc
mapped f (Some x) y e = (x, (refl, (let same : f x ≡ y = cc in same)))

module _ {B : Type 0} where
  abbrev pub has_own : RowOf B → Bool
  has_own row = is_some row.own

  abbrev pub in_range : Range → RegionOf B → List (RowOf B)
  in_range range r = take range.count (drop (range.first - r.base) r.rows)

  -- ---- what is found

  pub record IsAround (rs : List (RegionOf B)) (range : Range) (r : Found (RegionOf B)) : Type 0 where
    pub at : slice_get rs r.place ≡ Some r.thing
    pub inside : Inside range (pages_of r.thing)
    pub owned : owned_in rs range ≡ count_by has_own (in_range range r.thing)

  pub around : (rs : List (RegionOf B)) (range : Range) (r : Found (RegionOf B)) → region_around rs range ≡ Some r → IsAround rs range r
  around rs range r e =
      let stands = found_stands (λ (r : RegionOf B). lies_within range (pages_of r)) rs r e in
      record {
        at = stands.there;
        inside = inside range (pages_of r.thing) stands.passes;
        owned = ap (λ o. count_by has_own (rows_of_range range o)) e;
      }

  by_test : (test : RegionOf B → Bool) (r : RegionOf B) (b : Bool) (o : Option (Found (RegionOf B))) → is_some o ≡ true → is_some (cond b (Some (record { place = 0; thing = r })) (option_map one_later o)) ≡ true
  by_test test r true o e = refl
  by_test test r false None e = cc
  by_test test r false (Some q) e = refl

  found_there : (test : RegionOf B → Bool) (rs : List (RegionOf B)) (i : ℕ) (r : RegionOf B) → slice_get rs i ≡ Some r → test r ≡ true → is_some (first_where test rs) ≡ true
  found_there test [] i r at e = cc
  found_there test (x ∷ rs) zero r at e =
      let same : r ≡ x = cc in
      ap (λ b. is_some (cond b (Some (record { place = 0; thing = x })) (option_map one_later (first_where test rs)))) (sym (ap test same) ∙ e)
  found_there test (x ∷ rs) (suc i) r at e = by_test test x (test x) (first_where test rs) (found_there test rs i r at e)

  -- regions lie apart, so the one that has a range is found around it
  module _ (w : WorldOf B) (pid : ℕ) (p : ProcessOf B) (i : ℕ) (r : RegionOf B) (range : Range) (lives : process_of w pid ≡ Some p) (h : WellFormed w) (at : slice_get p.regions i ≡ Some r) (inner : Inside range (pages_of r)) (some : 1 ≤ range.count) where
    is_around : is_some (region_around p.regions range) ≡ true
    is_around =
        found_there (λ (r : RegionOf B). lies_within range (pages_of r)) p.regions i r at
        (lies range (pages_of r) inner)

    by_found : (o : Option (Found (RegionOf B))) → region_around p.regions range ≡ o → is_some o ≡ true → region_around p.regions range ≡ Some (record { place = i; thing = r })
    by_found None e there = cc
    by_found (Some q) e there =
        let a = around p.regions range q e in
        let place : q.place ≡ i =
        same_place w pid range.first q.place i p q.thing r h lives a.at at (holds_first range (pages_of q.thing) a.inside some) (holds_first range (pages_of r) inner some) in
        let things : Some q.thing ≡ Some r = sym a.at ∙ ap (slice_get p.regions) place ∙ at in
        let thing : q.thing ≡ r = cc in
        e ∙ (λ j. Some (record { place = place j; thing = thing j }))

    pub around_is : region_around p.regions range ≡ Some (record { place = i; thing = r })
    around_is = by_found (region_around p.regions range) refl is_around

  -- ---- private regions

  pub record IsPrivateAround (rs : List (RegionOf B)) (range : Range) (r : Found (RegionOf B)) : Type 0 where
    pub around : region_around rs range ≡ Some r
    pub private : is_private r.thing.kind ≡ true

  pub private_around_is : (w : WorldOf B) (pid : ℕ) (p : ProcessOf B) (range : Range) (r : Found (RegionOf B)) → process_of w pid ≡ Some p → WellFormed w → 1 ≤ range.count → private_around p.regions range ≡ Some r → IsPrivateAround p.regions range r
  private_around_is w pid p range r lives h some e =
      let stands = found_stands (λ (r : RegionOf B). is_private r.kind && lies_within range (pages_of r)) p.regions r e in
      let tests = and-true (is_private r.thing.kind) (lies_within range (pages_of r.thing)) stands.passes in
      record {
        around = around_is w pid p r.place r.thing range lives h stands.there (inside range (pages_of r.thing) tests.1) some;
        private = tests.0;
      }

  pub private_at_is : (w : WorldOf B) (pid : ℕ) (p : ProcessOf B) (addr : ℕ) (range : Range) (r : Found (RegionOf B)) → process_of w pid ≡ Some p → WellFormed w → private_at p.regions addr ≡ Some r → pages_of r.thing ≡ range → IsPrivateAround p.regions range r
  private_at_is w pid p addr range r lives h e pages =
      let stands = found_stands (λ (r : RegionOf B). is_private r.kind && (address_of r.base == addr)) p.regions r e in
      let fits = laid_at first_user_page p.regions r.place r.thing (h.spaces pid p lives).laid_out stands.there in
      let whole : Inside range (pages_of r.thing) = subst (λ (range : Range). Inside range (pages_of r.thing)) pages (record { low = omega arith; high = omega arith }) in
      record {
        around = around_is w pid p r.place r.thing range lives h stands.there whole (omega (arith, fits.some, ap (λ (q : Range). q.count) pages));
        private = (and-true (is_private r.thing.kind) (address_of r.thing.base == addr) stands.passes).0;
      }

  -- a range within a region lies in the user pages
  pub user_range : (w : WorldOf B) (pid : ℕ) (p : ProcessOf B) (range : Range) (r : Found (RegionOf B)) → process_of w pid ≡ Some p → WellFormed w → region_around p.regions range ≡ Some r → end_of range ≤ end_of_user_pages
  user_range w pid p range r lives h e =
      let a = around p.regions range r e in
      let placed = is_placed w pid r.place p r.thing h lives a.at in
      let user = and-true (nat_le first_user_page r.thing.base) (nat_le (end_of (pages_of r.thing)) end_of_user_pages) placed.1 in
      omega (arith, leb-true _ _ user.1, a.inside.high)

-- ---- what is told of a region

pub record IsTold (o : Option (Found (RegionOf (Unit {0})))) (told : RegionInfo) : Type 0 where
  pub region : Found (RegionOf (Unit {0}))
  pub found : o ≡ Some region
  pub pages : pages_of region.thing ≡ told.pages
  pub kind : region.thing.kind ≡ told.kind

pub told_is : (o : Option (Found (RegionOf (Unit {0})))) (told : RegionInfo) → option_map found_info o ≡ Some told → IsTold o told
told_is o told e =
    let r = mapped found_info o told e in
    record { region = r.0; found = r.1.0; pages = ap (λ (i : RegionInfo). i.pages) r.1.1; kind = ap (λ (i : RegionInfo). i.kind) r.1.1 }

-- ---- views lie within their sections, and their areas are there

module _ {B : Type 0} where
  pub record IsInSection (w : WorldOf B) (v : View) (r : RegionOf B) : Type 0 where
    pub made : v.area.0 < length w.areas
    pub there : slice_get w.areas v.area.0 ≡ Some (area_at w v.area.0)
    pub within : v.first + length r.rows ≤ length (area_at w v.area.0).pages

  pub in_section : (w : WorldOf B) (pid : ℕ) (p : ProcessOf B) (i : ℕ) (r : RegionOf B) (v : View) → process_of w pid ≡ Some p → WellFormed w → slice_get p.regions i ≡ Some r → r.kind ≡ kind.View v → IsInSection w v r
  in_section w pid p i r v lives h at is =
      let fits : ViewFits w v (length r.rows) = each-at (RegionRefers w) p.regions i r (h.references.processes pid p lives).views at v is in
      let made : v.area.0 < length w.areas = omega (arith, h.references.sections v.section.0 fits.section fits.lives, fits.same_area) in
      record { made = made; there = slice_get-get_or w.areas v.area.0 no_area made ∙ ap (λ (a : AreaOf B). Some a) (sym (unwrap_or-slice_get w.areas v.area.0 no_area)); within = fits.within }

  pub record RangeInSection (w : WorldOf B) (v : View) (r : RegionOf B) (range : Range) : Type 0 where
    pub low : r.base ≤ range.first
    pub within : v.first + (range.first - r.base) + range.count ≤ length (area_at w v.area.0).pages

  pub range_in_section : (w : WorldOf B) (pid : ℕ) (p : ProcessOf B) (range : Range) (r : Found (RegionOf B)) (v : View) → process_of w pid ≡ Some p → WellFormed w → region_around p.regions range ≡ Some r → r.thing.kind ≡ kind.View v → RangeInSection w v r.thing range
  range_in_section w pid p range r v lives h e is =
      let a = around p.regions range r e in
      let s = in_section w pid p r.place r.thing v lives h a.at is in
      record { low = a.inside.low; within = omega (arith, s.within, a.inside.low, a.inside.high) }

-- ---- what was told of a view

pub record TellsView (t : Tables) (rs : List (RegionOf (Unit {0}))) (range pages : Range) (v : View) : Type 0 where
  pub region : Found (RegionOf (Unit {0}))
  pub found : region_around rs range ≡ Some region
  pub kind : region.thing.kind ≡ kind.View v
  pub made : v.area.0 < length t.areas
  pub low : pages.first ≤ range.first
  pub index : v.first + (range.first - pages.first) ≡ v.first + (range.first - region.thing.base)
  pub within : v.first + (range.first - pages.first) + range.count ≤ length (area_at t v.area.0).pages

pub tells_view : (t : Tables) (pid : ℕ) (p : ProcessOf (Unit {0})) (range pages : Range) (v : View) → process_of t pid ≡ Some p → WellFormed t → option_map found_info (region_around p.regions range) ≡ Some (record { pages = pages; kind = kind.View v }) → TellsView t p.regions range pages v
tells_view t pid p range pages v lives h e =
    let told = told_is (region_around p.regions range) (record { pages = pages; kind = kind.View v }) e in
    let r = told.region in
    let base : r.thing.base ≡ pages.first = ap (λ (q : Range). q.first) told.pages in
    let a = around p.regions range r told.found in
    let s = range_in_section t pid p range r v lives h told.found told.kind in
    record {
      region = r;
      found = told.found;
      kind = told.kind;
      made = (in_section t pid p r.place r.thing v lives h a.at told.kind).made;
      low = omega (arith, s.low, base);
      index = omega (arith, base);
      within = omega (arith, s.within, base);
    }

-- no block was told
pub no_block : (o : Option ℕ) → is_some (option_map number_of_block o) ≡ false → o ≡ None
no_block None e = refl
no_block (Some n) e = cc

-- ---- what is charged after rows of a range were changed

-- ---- rows

pub owned_few : (rs : List (RegionOf (Unit {0}))) (range : Range) (r : Found (RegionOf (Unit {0}))) → region_around rs range ≡ Some r → owned_in rs range ≤ range.count
owned_few rs range r found =
    let a = around rs range r found in
    omega (arith, a.owned, count_by-le-length has_own (in_range range r.thing), length-range r.thing.rows (range.first - r.thing.base) range.count (omega (arith, a.inside.low, a.inside.high)))

-- ---- tables

module _ (t : Tables) (pid : ℕ) (p : ProcessOf (Unit {0})) (range : Range) (r : Found (RegionOf (Unit {0}))) (lives : process_of t pid ≡ Some p) (found : region_around p.regions range ≡ Some r) where
  a : IsAround p.regions range r
  a = around p.regions range r found

  pub commit_charge : (prot : ℕ) → r.thing.kind ≡ kind.Private → charge (set_region t pid p r.place (change_rows (commit tt prot) range r.thing)) + owned_in p.regions range ≡ charge t + range.count
  commit_charge prot private =
      omega (
        arith,
        charge-set_region t pid p r.place r.thing (change_rows (commit tt prot) range r.thing) lives a.at,
        rows.charge_of_commit (commit tt prot) (λ row. refl) range r.thing (ap is_private private) (record { low = a.inside.low; high = a.inside.high }),
        a.owned,
      )

  pub protect_charge : (prot : ℕ) → charge (set_region t pid p r.place (change_rows (protected r.thing.kind prot) range r.thing)) ≡ charge t + new_marks p.regions range prot
  protect_charge prot =
      omega (
        arith,
        charge-set_region t pid p r.place r.thing (change_rows (protected r.thing.kind prot) range r.thing) lives a.at,
        protect_count p.regions range r prot found,
      )

-- ---- areas

-- those that pass one test or the other, where each passes one of them
count-either : {A : Type 0} (test other : A → Bool) (xs : List A) → ((x : A) → other x ≡ not (test x)) → count_by test xs + count_by other xs ≡ length xs
count-either test other [] either = refl
count-either test other (x ∷ xs) either =
    omega (arith, sum_by-cons (counted test) x xs, sum_by-cons (counted other) x xs, ap one_if (either x), one_or_other (test x), count-either test other xs either)

abbrev made_page : Option (Unit {0}) → Option (Unit {0})
made_page page = Some (unwrap_or page tt)

not_none : (page : Option (Unit {0})) → is_none page ≡ not (is_some page)
not_none None = refl
not_none (Some x) = refl

module _ (a : AreaOf (Unit {0})) (none : a.file_block ≡ None) where
  abbrev is_paid : Option (Unit {0}) → Bool
  is_paid page = is_some page && is_none a.file_block

  paid : (page : Option (Unit {0})) → is_paid page ≡ is_some page
  paid page = ap (λ o. is_some page && is_none o) none ∙ and_true (is_some page)

  area_count : (first count : ℕ) → first + count ≤ length a.pages → area_charge (commit_shared blank first count a) ≡ area_charge a + uncommitted_in a first count
  area_count first count inside =
      omega (
        arith,
        count-change_range is_paid made_page first count a.pages,
        count-all is_paid made_page (take count (drop first a.pages)) (λ page. paid (made_page page)),
        count-either is_paid is_none (take count (drop first a.pages)) (λ page. not_none page ∙ ap not (sym (paid page))),
        length-range a.pages first count inside,
      )

pub area_charge_more : (w : Tables) (area first count : ℕ) → slice_get w.areas area ≡ Some (area_at w area) → first + count ≤ length (area_at w area).pages → (area_at w area).file_block ≡ None → charge (set_area w area (commit_shared blank first count (area_at w area))) ≡ charge w + uncommitted_in (area_at w area) first count
area_charge_more w area first count there inside none =
    omega (
      arith,
      sum_by-put area_charge w.areas area (area_at w area) (commit_shared blank first count (area_at w area)) there,
      area_count (area_at w area) none first count inside,
    )

-- ---- no mark

-- a protection of private pages marks none
pub no_marks : (rs : List (RegionOf (Unit {0}))) (range : Range) (prot : ℕ) → is_protection_among private_protections prot ≡ true → new_marks rs range prot ≡ 0
no_marks rs range prot e = by_region (region_around rs range)
  where
    other : (base_of prot == 0x08) ≡ false
    other = not_true (base_of prot == 0x08) (λ same. let bad : false ≡ true = ap (is_one_of private_protections) (sym ((unsigned_Decides (base_of prot) 8).0 same)) ∙ allowed prot e in cc)

    by_kind : (k : Kind) → newly_marked k rs range prot ≡ 0
    by_kind kind.Private = refl
    by_kind (kind.View v) = ap (λ b. cond b (unmarked_in rs range) 0) other

    by_region : (o : Option (Found (RegionOf (Unit {0})))) → unwrap_or (option_map (λ (r : Found (RegionOf (Unit {0}))). newly_marked r.thing.kind rs range prot) o) 0 ≡ 0
    by_region None = refl
    by_region (Some r) = by_kind r.thing.kind
