-- What the definitions of calls come to.
use Rattle.std.proofs.Common.{◌≡◌, ◌+◌, ◌-◌, ℕ, true, false, Some, None, is_none, is_some, refl, ◌∙◌, ap, arith, Bool, Option, ◌≢◌, sym, cond, option_map, ◌&&◌, ◌||◌, ◌≤◌, ◌<◌, List, length, not, nat_lt, count_by, subst, map}
use Rattle.std.specs.Prelude.{◌==◌, remove}
use Rattle.std.specs.Cmp.{unsigned_Decides}
use Rattle.std.proofs.lemmas.Bool.{eqb-false, eqb-true, ne_eqb, ltb-false}
use Rattle.std.proofs.lemmas.List.Sums.{sum_by-insert}
use Rattle.mm_types.specs.{View, Range, address_of, granule_range_of, is_free, pages_for, range_of, decommit_type, release_type, ViewAccess, page_of}
use Rattle.mm_types.specs.{end_of, lies_within, Key, Answer}
use Rattle.mm_types.proofs.{none_of, some_found, some_map}
use Rattle.mm_types.specs.declared.answers.Answer.TheVariants as answer
use Rattle.mm_types.specs.declared.codes.Code.TheVariants as code
use Rattle.mm_types.specs.declared.views.Kind.TheVariants as kind
use Rattle.mm_world.specs.{ProcessOf, RegionOf, Found, process_of, region_around, set_region, set_area, area_at, commit_in, commit_shared, charge}
use Rattle.mm_world.specs.{Tables, blank, done, refused, within_limit, protection_at, is_protection_among, private_protections, accepts}
use Rattle.mm_world.specs.{is_committed_at, every_page, protected, commit, change_rows, set_regions, add_region, ranges_of, placed, private_region}
use Rattle.mm_world.specs.{reserve, OutcomeOf, pages_of, private_at, private_around, is_private, free, decommit, end_stacks, is_stack_at}
use Rattle.mm_world.specs.{are_free_parameters, find_or, RowOf, SectionOf, first_where, region_charge, view_region, is_copy, first_protection}
use Rattle.mm_world.specs.{view_around, Page, filled, alloc, are_alloc_parameters, is_reserving, is_watched_type, plain_type, no_bytes, world_with}
use Rattle.mm_world.specs.{is_success, need, protect, are_protect_parameters, mark_written, change_flags, watched_around, written_in, unwritten}
use Rattle.mm_world.specs.{with_watched, watch, reset_watch}
use Rattle.mm_world.specs.Alloc.{commit_pages}
use Rattle.mm_world.specs.WellFormed.{WellFormed}
use Rattle.mm_world.proofs.{at_met, at_unmet, at_found, at_missing, at_alive, charge-set_regions, Stands, found_stands, and-true, inside, same_charge}
use Rattle.mm_world.proofs.{tables_back}
use Rattle.mm_world.proofs.Natural.{in_alloc, in_protect}
use Rattle.mm_sections.specs.{uncommitted_in}
use Rattle.mm_store.specs.{StoreOf}
use Rattle.mm_address_spaces.specs.{owned_in, RegionInfo, found_info}
use Rattle.mm_object_tables.specs.{new_marks, new_pages, FitsTables, Called}
use Rattle.mm_object_tables.proofs.{reserve_charge, count-replicate, not-true, called_by, carries_same}
use Rattle.mm_calls.specs.{protect_pages, freed_pages, place_view, allocates_anew, marks_anew, after_watch}
use Rattle.mm_calls.proofs.Around.{in_section, range_in_section, around, mapped, private_at_is, private_around_is, told_is, commit_charge, protect_charge, area_charge_more, no_marks}
use Rattle.mm_calls.proofs.Exits.{ChangesWithin}

module _ (t : Tables) (pid : ℕ) (p : ProcessOf (Unit {0})) (range : Range) (prot n : ℕ) (lives : process_of t pid ≡ Some p) (r : Found (RegionOf (Unit {0}))) (found : region_around p.regions range ≡ Some r) where
  -- ---- commit in a private region

  pub commit_within : r.thing.kind ≡ kind.Private → n + owned_in p.regions range ≡ range.count → ChangesWithin (commit_pages blank t pid p range prot) t n (answer.At (address_of range.first)) (set_region t pid p r.place (change_rows (commit tt prot) range r.thing))
  commit_within private counted =
      record {
        is = at_found t code.InvalidAddress (region_around p.regions range) r (λ r. commit_in blank t pid p r r.thing.kind range prot) found ∙ ap (λ k. commit_in blank t pid p r k range prot) private;
        total = omega (arith, commit_charge t pid p range r lives found prot private, counted);
        same_limit = refl;
      }

  -- ---- commit in a view

  module _ (v : View) (view : r.thing.kind ≡ kind.View v) where
    abbrev first : ℕ
    first = v.first + (range.first - r.thing.base)

    abbrev committed : Tables
    committed = set_area (set_region t pid p r.place (change_rows (protected r.thing.kind prot) range r.thing)) v.area.0 (commit_shared blank first range.count (area_at t v.area.0))

    module _ (none : (area_at t v.area.0).file_block ≡ None) (h : WellFormed t) (allowed : is_protection_among private_protections prot ≡ true) (takes : every_page (accepts r.thing prot) range ≡ true) (counted : n ≡ uncommitted_in (area_at t v.area.0) first range.count) where
      in_limit : commit_pages blank t pid p range prot ≡ within_limit t (done (answer.At (address_of range.first)) committed)
      in_limit =
          at_found t code.InvalidAddress (region_around p.regions range) r (λ r. commit_in blank t pid p r r.thing.kind range prot) found ∙ ap (λ k. commit_in blank t pid p r k range prot) view
          ∙ at_met t code.InvalidAddress (is_none (area_at t v.area.0).file_block) _ (ap is_none none)
          ∙ at_met t code.InvalidParameter (every_page (accepts r.thing prot) range) _ takes

      view_total : charge committed ≡ charge t + n
      view_total =
          let s = in_section t pid p r.place r.thing v lives h (around p.regions range r found).at view in
          omega (
            arith,
            area_charge_more (set_region t pid p r.place (change_rows (protected r.thing.kind prot) range r.thing)) v.area.0 first range.count s.there (range_in_section t pid p range r v lives h found view).within none,
            protect_charge t pid p range r lives found prot,
            no_marks p.regions range prot allowed,
            counted,
          )

      pub view_within : ChangesWithin (commit_pages blank t pid p range prot) t n (answer.At (address_of range.first)) (set_area (set_region t pid p r.place (change_rows (protected r.thing.kind prot) range r.thing)) v.area.0 (commit_shared blank (v.first + (range.first - r.thing.base)) range.count (area_at t v.area.0)))
      view_within = record { is = in_limit; total = view_total; same_limit = refl }

-- ---- protect

module _ (t : Tables) (pid : ℕ) (p : ProcessOf (Unit {0})) (range : Range) (prot n : ℕ) (lives : process_of t pid ≡ Some p) (r : Found (RegionOf (Unit {0}))) (found : region_around p.regions range ≡ Some r) where
  pub protect_within : every_page (is_committed_at t r.thing) range ≡ true → every_page (accepts r.thing prot) range ≡ true → n ≡ new_marks p.regions range prot → ChangesWithin (protect_pages t pid p range prot) t n (answer.OldProt (protection_at r.thing range.first)) (set_region t pid p r.place (change_rows (protected r.thing.kind prot) range r.thing))
  protect_within there takes counted =
      record {
        is = at_found t code.InvalidAddress (region_around p.regions range) r _ found
            ∙ at_met t code.InvalidAddress (every_page (is_committed_at t r.thing) range) _ there
            ∙ at_met t code.InvalidParameter (every_page (accepts r.thing prot) range) _ takes;
        total = omega (arith, protect_charge t pid p range r lives found prot, counted);
        same_limit = refl;
      }

-- where it is refused before the limit is asked
module _ (t : Tables) (pid : ℕ) (p : ProcessOf (Unit {0})) (range : Range) (prot : ℕ) where
  pub protect_missing : region_around p.regions range ≡ None → protect_pages t pid p range prot ≡ refused t code.InvalidAddress
  protect_missing e = at_missing t code.InvalidAddress (region_around p.regions range) _ (ap is_some e)

  module _ (r : Found (RegionOf (Unit {0}))) (found : region_around p.regions range ≡ Some r) where
    pub protect_uncommitted : every_page (is_committed_at t r.thing) range ≡ false → protect_pages t pid p range prot ≡ refused t code.InvalidAddress
    protect_uncommitted e =
        at_found t code.InvalidAddress (region_around p.regions range) r _ found
        ∙ at_unmet t code.InvalidAddress (every_page (is_committed_at t r.thing) range) _ e

    pub protect_unaccepted : every_page (is_committed_at t r.thing) range ≡ true → every_page (accepts r.thing prot) range ≡ false → protect_pages t pid p range prot ≡ refused t code.InvalidParameter
    protect_unaccepted there e =
        at_found t code.InvalidAddress (region_around p.regions range) r _ found
        ∙ at_met t code.InvalidAddress (every_page (is_committed_at t r.thing) range) _ there
        ∙ at_unmet t code.InvalidParameter (every_page (accepts r.thing prot) range) _ e

-- ---- what the definition of a reservation comes to

module _ (t : Tables) (pid : ℕ) (p : ProcessOf (Unit {0})) (addr size : ℕ) (watched : Bool) (type prot : ℕ) where
  abbrev made : Range → OutcomeOf (Unit {0})
  made range = done (answer.At (address_of range.first)) (set_regions t pid p (add_region (private_region blank watched type prot range) p.regions))

  abbrev place : Option Range
  place = placed (ranges_of p.regions) addr (granule_range_of addr size) (pages_for size)

  pub reserve_missing : place ≡ None → reserve blank t pid p addr size watched type prot ≡ refused t code.InvalidAddress
  reserve_missing e = at_missing t code.InvalidAddress place (λ range. within_limit t (made range)) (ap is_some e)

  pub reserve_within : (range : Range) → process_of t pid ≡ Some p → place ≡ Some range → is_free (ranges_of p.regions) range ≡ true → ChangesWithin (reserve blank t pid p addr size watched type prot) t (new_pages type range) (answer.At (address_of range.first)) (set_regions t pid p (add_region (private_region blank watched type prot range) p.regions))
  reserve_within range lives found free =
      record {
        is = at_found t code.InvalidAddress place range (λ range. within_limit t (made range)) found;
        total = reserve_charge t pid p watched type prot range lives free;
        same_limit = refl;
      }

-- ---- what `free` comes to, once its parameters were found right

module _ (t : Tables) (pid addr size type : ℕ) (p : ProcessOf (Unit {0})) (lives : process_of t pid ≡ Some p) (right : are_free_parameters size type ≡ true) where
  abbrev at_base : Option (Found (RegionOf (Unit {0})))
  at_base = private_at p.regions addr

  abbrev holding : Option (Found (RegionOf (Unit {0})))
  holding = private_around p.regions (range_of addr size)

  abbrev released : Found (RegionOf (Unit {0})) → OutcomeOf (Unit {0})
  released r = done answer.Ok (end_stacks (set_regions t pid p (remove p.regions r.place)) (is_stack_at pid addr))

  abbrev whole : Found (RegionOf (Unit {0})) → OutcomeOf (Unit {0})
  whole r = decommit t pid p r (pages_of r.thing)

  abbrev part : Found (RegionOf (Unit {0})) → OutcomeOf (Unit {0})
  part r = decommit t pid p r (range_of addr size)

  -- by whether it releases, and whether it has no size
  abbrev chosen : Bool → Bool → OutcomeOf (Unit {0})
  chosen release bare =
      cond release (find_or t code.InvalidAddress at_base released)
      (cond bare (find_or t code.InvalidAddress at_base whole) (find_or t code.InvalidAddress holding part))

  reached : free t pid addr size type ≡ chosen (type == release_type) (size == 0)
  reached = at_alive t pid p _ lives ∙ at_met t code.InvalidParameter (are_free_parameters size type) _ right

  -- a release has no size
  bare_release : type ≡ release_type → (size == 0) ≡ true
  bare_release e = by_types (type == decommit_type) (type == release_type) (size == 0) refl refl right
    where
      by_types : (d r b : Bool) → (type == decommit_type) ≡ d → (type == release_type) ≡ r → (d || (r && b)) ≡ true → b ≡ true
      by_types true r b is other h = absurd (omega (arith, eqb-true type decommit_type is, e))
      by_types false true b is other h = h
      by_types false false b is other h = cc

  by_number : (type == release_type) ≡ true → (size == 0) ≡ true
  by_number e = bare_release (eqb-true type release_type e)

  abbrev pages_by : Bool → Option Range
  pages_by bare = cond bare (option_map (λ r. pages_of r.thing) at_base) (option_map (λ r. range_of addr size) holding)

  none_of_map : {A C : Type 0} (f : A → C) (o : Option A) → option_map f o ≡ None → is_some o ≡ false
  none_of_map f None e = refl
  none_of_map f (Some x) e = cc

  pub frees_none : freed_pages p.regions addr size ≡ None → free t pid addr size type ≡ refused t code.InvalidAddress
  frees_none none = reached ∙ by_size (type == release_type) (size == 0) by_number none
    where
      by_size : (r b : Bool) → (r ≡ true → b ≡ true) → pages_by b ≡ None → chosen r b ≡ refused t code.InvalidAddress
      by_size true true bare e = at_missing t code.InvalidAddress at_base released (none_of_map _ at_base e)
      by_size true false bare e = let bad = bare refl in cc
      by_size false true bare e = at_missing t code.InvalidAddress at_base whole (none_of_map _ at_base e)
      by_size false false bare e = at_missing t code.InvalidAddress holding part (none_of_map _ holding e)

  module _ (range : Range) (found : freed_pages p.regions addr size ≡ Some range) where
    pub releases_there : type ≡ release_type → option_map (λ r. pages_of r.thing) (private_at p.regions addr) ≡ Some range
    releases_there e = ap pages_by (sym (bare_release e)) ∙ found

    pub releases : type ≡ release_type → (after : Tables) → ((r : Found (RegionOf (Unit {0}))) → private_at p.regions addr ≡ Some r → after ≡ end_stacks (set_regions t pid p (remove p.regions r.place)) (is_stack_at pid addr)) → free t pid addr size type ≡ record { answer = answer.Ok; world = after }
    releases e after is =
        let r = mapped (λ (r : Found (RegionOf (Unit {0}))). pages_of r.thing) at_base range (releases_there e) in
        reached ∙ ap (λ b. chosen b (size == 0)) ((unsigned_Decides type release_type).1 e) ∙ at_found t code.InvalidAddress at_base r.0 released r.1.0
        ∙ ap (λ (w : Tables). done answer.Ok w) (sym (is r.0 r.1.0))

    -- the region whose pages are decommitted, or some of them
    pub record Decommits : Type 0 where
      pub region : Found (RegionOf (Unit {0}))
      pub around : region_around p.regions range ≡ Some region
      pub private : is_private region.thing.kind ≡ true
      pub is : free t pid addr size type ≡ decommit t pid p region range

    pub decommits : type ≢ release_type → WellFormed t → Decommits
    decommits other h = by_size (size == 0) refl found
      where
        by_size : (b : Bool) → (size == 0) ≡ b → pages_by b ≡ Some range → Decommits
        by_size true e f =
            let r = mapped (λ (r : Found (RegionOf (Unit {0}))). pages_of r.thing) at_base range f in
            let a = private_at_is t pid p addr range r.0 lives h r.1.0 r.1.1 in
            record {
              region = r.0;
              around = a.around;
              private = a.private;
              is = reached ∙ (λ i. chosen (ne_eqb type release_type other i) (e i)) ∙ at_found t code.InvalidAddress at_base r.0 whole r.1.0 ∙ ap (λ (x : Range). decommit t pid p r.0 x) r.1.1;
            }
        by_size false e f =
            let r = mapped (λ (r : Found (RegionOf (Unit {0}))). range_of addr size) holding range f in
            let some = eqb-false size 0 e in
            let a = private_around_is t pid p (range_of addr size) r.0 lives h (omega (arith, some)) r.1.0 in
            record {
              region = r.0;
              around = ap (region_around p.regions) (sym r.1.1) ∙ a.around;
              private = a.private;
              is = reached ∙ (λ i. chosen (ne_eqb type release_type other i) (e i)) ∙ at_found t code.InvalidAddress holding r.0 part r.1.0 ∙ ap (λ (x : Range). decommit t pid p r.0 x) r.1.1;
            }

-- ---- views that are made, found and flushed

-- ---- a new view

module _ (t : Tables) (pid : ℕ) (p : ProcessOf (Unit {0})) (s : Found SectionOf) (access : ViewAccess) (first : ℕ) (range : Range) (lives : process_of t pid ≡ Some p) where
  view_charge : charge (set_regions t pid p (add_region (view_region s access first range) p.regions)) ≡ charge t + cond (is_copy access) range.count 0
  view_charge =
      let i = count_by (λ (r : RegionOf (Unit {0})). nat_lt r.base range.first) p.regions in
      let row : RowOf (Unit {0}) = record { prot = first_protection access; guard = false; marked = is_copy access; own = None } in
      let rows : region_charge (view_region s access first range) ≡ cond (is_copy access) range.count 0 = count-replicate (λ (row : RowOf (Unit {0})). row.marked) range.count row in
      omega (arith, charge-set_regions t pid p (add_region (view_region s access first range) p.regions) lives, sum_by-insert region_charge p.regions i (view_region s access first range), rows)

  pub place_within : (count addr : ℕ) → placed (ranges_of p.regions) addr (record { first = page_of addr; count = count }) count ≡ Some range → ChangesWithin (place_view t pid p s access first count addr) t (cond (is_copy access) range.count 0) (answer.At (address_of range.first)) (set_regions t pid p (add_region (view_region s access first range) p.regions))
  place_within count addr found =
      record { is = at_found t code.InvalidAddress (placed (ranges_of p.regions) addr (record { first = page_of addr; count = count }) count) range _ found; total = view_charge; same_limit = refl }

-- no range was found
pub place_missing : (t : Tables) (pid : ℕ) (p : ProcessOf (Unit {0})) (s : Found SectionOf) (access : ViewAccess) (first count addr : ℕ) → placed (ranges_of p.regions) addr (record { first = page_of addr; count = count }) count ≡ None → place_view t pid p s access first count addr ≡ refused t code.InvalidAddress
place_missing t pid p s access first count addr e = at_missing t code.InvalidAddress (placed (ranges_of p.regions) addr (record { first = page_of addr; count = count }) count) _ (ap is_some e)

-- where a range was found
pub placed_there : (rs qs : List (RegionOf (Unit {0}))) (addr count : ℕ) (told : Option Range) (range : Range) → rs ≡ qs → told ≡ placed (ranges_of rs) addr (record { first = page_of addr; count = count }) count → told ≡ Some range → placed (ranges_of qs) addr (record { first = page_of addr; count = count }) count ≡ Some range
placed_there rs qs addr count told range same e is = ap (λ rs. placed (ranges_of rs) addr (record { first = page_of addr; count = count }) count) (sym same) ∙ sym e ∙ is

-- ---- what is told of a view

pub told_none : (o : Option (Found (RegionOf (Unit {0})))) → option_map found_info o ≡ None → o ≡ None
told_none None e = refl
told_none (Some r) e = cc

-- what was found as a view is one
pub told_view : (test : RegionOf (Unit {0}) → Bool) (rs : List (RegionOf (Unit {0}))) (told : RegionInfo) → option_map found_info (first_where (λ r. not (is_private r.kind) && test r) rs) ≡ Some told → is_private told.kind ≡ false
told_view test rs told e =
    let r = told_is (first_where (λ (r : RegionOf (Unit {0})). not (is_private r.kind) && test r) rs) told e in
    let stands = found_stands (λ (r : RegionOf (Unit {0})). not (is_private r.kind) && test r) rs r.region r.found in
    ap is_private (sym r.kind) ∙ not-true (is_private r.region.thing.kind) (and-true (not (is_private r.region.thing.kind)) (test r.region.thing) stands.passes).0

-- a range lies in a view, which lies in its section
pub record FindsView (t : Tables) (rs : List (RegionOf (Unit {0}))) (range : Range) (told : RegionInfo) (v : View) : Type 0 where
  pub region : Found (RegionOf (Unit {0}))
  pub found : view_around rs range ≡ Some region
  pub pages : pages_of region.thing ≡ told.pages
  pub kind : region.thing.kind ≡ kind.View v
  pub low : told.pages.first ≤ range.first
  pub high : end_of range ≤ end_of told.pages
  pub made : v.area.0 < length t.areas
  pub within : v.first + told.pages.count ≤ length (area_at t v.area.0).pages

pub finds_view : (t : Tables) (pid : ℕ) (p : ProcessOf (Unit {0})) (range : Range) (told : RegionInfo) (v : View) → process_of t pid ≡ Some p → WellFormed t → option_map found_info (view_around p.regions range) ≡ Some told → told.kind ≡ kind.View v → FindsView t p.regions range told v
finds_view t pid p range told v lives h e is =
    let r = told_is (view_around p.regions range) told e in
    let stands : Stands (λ (r : RegionOf (Unit {0})). not (is_private r.kind) && lies_within range (pages_of r)) p.regions r.region =
    found_stands (λ (r : RegionOf (Unit {0})). not (is_private r.kind) && lies_within range (pages_of r)) p.regions r.region r.found in
    let inner = inside range (pages_of r.region.thing) (and-true (not (is_private r.region.thing.kind)) (lies_within range (pages_of r.region.thing)) stands.passes).1 in
    let first : r.region.thing.base ≡ told.pages.first = ap (λ (q : Range). q.first) r.pages in
    let count : length r.region.thing.rows ≡ told.pages.count = ap (λ (q : Range). q.count) r.pages in
    let s = in_section t pid p r.region.place r.region.thing v lives h stands.there (r.kind ∙ is) in
    record {
      region = r.region;
      found = r.found;
      pages = r.pages;
      kind = r.kind ∙ is;
      low = omega (arith, inner.low, first);
      high = omega (arith, inner.high, first, count);
      made = s.made;
      within = omega (arith, s.within, count);
    }

-- ---- the pages that are flushed

pub flushed_within : (b : Bool) (first before count meant total : ℕ) → before ≤ count → before + meant ≤ count → first + count ≤ total → first + before + cond b (count - before) meant ≤ total
flushed_within true first before count meant total small fits inside = omega (arith, small, inside)
flushed_within false first before count meant total small fits inside = omega (arith, fits, inside)

-- ---- where `alloc` and `protect` take memory, once their parameters were found right

module _ (t : Tables) (pid addr size type prot : ℕ) (p : ProcessOf (Unit {0})) (plain : ℕ) (lives : process_of t pid ≡ Some p) (is_plain : plain ≡ plain_type type) (right : are_alloc_parameters size plain prot ≡ true) where
  -- by the type without the flag, and whether it had it
  abbrev decided : ℕ → Bool → ProcessOf (Unit {0}) → OutcomeOf (Unit {0})
  decided k watched p =
      need t code.InvalidParameter (are_alloc_parameters size k prot) (
      cond (is_reserving addr k) (reserve blank t pid p addr size watched k prot) (commit_pages blank t pid p (range_of addr size) prot))

  alloc_reached : (watched : Bool) → watched ≡ is_watched_type type → alloc blank t pid addr size type prot ≡ cond (is_reserving addr plain) (reserve blank t pid p addr size watched plain prot) (commit_pages blank t pid p (range_of addr size) prot)
  alloc_reached watched is =
      at_alive t pid p (decided (plain_type type) (is_watched_type type)) lives
      ∙ (λ i. decided (sym is_plain i) (sym is i) p)
      ∙ at_met t code.InvalidParameter (are_alloc_parameters size plain prot) _ right

  pub alloc_reserves : (watched : Bool) → watched ≡ is_watched_type type → is_reserving addr plain ≡ true → alloc blank t pid addr size type prot ≡ reserve blank t pid p addr size watched plain prot
  alloc_reserves watched is e = alloc_reached watched is ∙ ap (λ b. cond b (reserve blank t pid p addr size watched plain prot) (commit_pages blank t pid p (range_of addr size) prot)) e

  pub alloc_commits : is_reserving addr plain ≡ false → alloc blank t pid addr size type prot ≡ commit_pages blank t pid p (range_of addr size) prot
  alloc_commits e = alloc_reached (is_watched_type type) refl ∙ ap (λ b. cond b (reserve blank t pid p addr size (is_watched_type type) plain prot) (commit_pages blank t pid p (range_of addr size) prot)) e

  -- ---- what takes memory

  abbrev anew : Bool → OutcomeOf (Unit {0}) → Bool
  anew reserves o = cond reserves (is_success o.answer) (nat_lt (charge t) (charge o.world))

  pub reserves_anew : (watched : Bool) → watched ≡ is_watched_type type → is_reserving addr plain ≡ true
      → is_success (reserve blank t pid p addr size watched plain prot).answer ≡ true
      → allocates_anew blank t pid addr size type prot ≡ true
  reserves_anew watched is e made =
      let there : is_reserving addr (plain_type type) ≡ true = ap (is_reserving addr) (sym is_plain) ∙ e in
      (λ i. anew (there i) (alloc_reserves watched is e i)) ∙ made

  pub commits_anew : is_reserving addr plain ≡ false
      → charge t < charge (commit_pages blank t pid p (range_of addr size) prot).world
      → allocates_anew blank t pid addr size type prot ≡ false → ⊥
  commits_anew e more none =
      let there : is_reserving addr (plain_type type) ≡ false = ap (is_reserving addr) (sym is_plain) ∙ e in
      let less = sym (λ i. anew (there i) (alloc_commits e i)) ∙ none in
      omega (arith, more, ltb-false (charge t) (charge (commit_pages blank t pid p (range_of addr size) prot).world) less)

-- it is the same of a world and of its tables
pub allocates_with : (t : Tables) (bytes : Key → Page) (pid addr size type prot : ℕ)
    → allocates_anew filled (world_with t bytes) pid addr size type prot ≡ allocates_anew blank t pid addr size type prot
allocates_with t bytes pid addr size type prot =
    let w = world_with t bytes in
    let o = alloc filled w pid addr size type prot in
    let back : charge w ≡ charge t = sym (same_charge no_bytes w) ∙ ap charge (tables_back bytes t) in
    let called : alloc blank t pid addr size type prot ≡ _ =
    ap (λ (t : Tables). alloc blank t pid addr size type prot) (sym (tables_back bytes t))
    ∙ (in_alloc no_bytes filled w pid addr size type prot).same in
    let after : charge o.world ≡ charge (alloc blank t pid addr size type prot).world =
    sym (ap (λ (o : OutcomeOf (Unit {0})). charge o.world) called ∙ same_charge no_bytes o.world) in
    let answered : o.answer ≡ (alloc blank t pid addr size type prot).answer =
    sym (ap (λ (o : OutcomeOf (Unit {0})). o.answer) called) in
    λ i. cond (is_reserving addr (plain_type type)) (is_success (answered i)) (nat_lt (back i) (after i))

-- ---- where a `protect` marks a page for the first time

-- once its parameters were found right, where the charge rises
pub marks_there : (t : Tables) (pid addr size prot : ℕ) (p : ProcessOf (Unit {0}))
    → process_of t pid ≡ Some p → are_protect_parameters size prot ≡ true
    → charge t < charge (protect_pages t pid p (range_of addr size) prot).world
    → marks_anew t pid addr size prot ≡ false → ⊥
marks_there t pid addr size prot p lives right more e =
    let alloc_reached : protect t pid addr size prot ≡ protect_pages t pid p (range_of addr size) prot =
    at_found t code.InvalidHandle (process_of t pid) p _ lives ∙ at_met t code.InvalidParameter (are_protect_parameters size prot) _ right in
    let same : charge (protect t pid addr size prot).world ≡ charge (protect_pages t pid p (range_of addr size) prot).world = ap (λ (o : OutcomeOf (Unit {0})). charge o.world) alloc_reached in
    omega (arith, ltb-false (charge t) (charge (protect t pid addr size prot).world) e, same, more)

-- it is the same of a world and of its tables
pub marks_with : (t : Tables) (bytes : Key → Page) (pid addr size prot : ℕ)
    → marks_anew (world_with t bytes) pid addr size prot ≡ marks_anew t pid addr size prot
marks_with t bytes pid addr size prot =
    let w = world_with t bytes in
    let back : charge w ≡ charge t = sym (same_charge no_bytes w) ∙ ap charge (tables_back bytes t) in
    let called : protect t pid addr size prot ≡ _ = ap (λ (t : Tables). protect t pid addr size prot) (sym (tables_back bytes t)) ∙ (in_protect no_bytes w pid addr size prot).same in
    let after : charge (protect w pid addr size prot).world ≡ charge (protect t pid addr size prot).world =
    sym (ap (λ (o : OutcomeOf (Unit {0})). charge o.world) called ∙ same_charge no_bytes (protect w pid addr size prot).world) in
    λ i. nat_lt (back i) (after i)

-- ---- what `watch` and `resetwatch` come to, and that they leave a store alone

-- nothing but tables was changed, and the store fits them as it did
pub called_beside : (q : OutcomeOf (Unit {0})) (t after : Tables) (contents : Key → Option Page) (s : StoreOf) (a : Answer) → q ≡ record { answer = a; world = after } → FitsTables t contents s → FitsTables after contents s → Called q t contents a after contents
called_beside q t after contents s a e f g =
    called_by q t after contents contents s s a e f (record { fits = g; carries = carries_same contents contents refl; rest = refl })

-- the range goes by another name
module _ (t : Tables) (pid addr size : ℕ) (p : ProcessOf (Unit {0})) (lives : process_of t pid ≡ Some p) (some : (size == 0) ≡ false) (range : Range) (named : range ≡ range_of addr size) where
  abbrev watched_region : Option (Found (RegionOf (Unit {0})))
  watched_region = watched_around p.regions range

  module _ (later : ProcessOf (Unit {0}) → Found (RegionOf (Unit {0})) → OutcomeOf (Unit {0})) where
    in_watched : (r : Found (RegionOf (Unit {0}))) → watched_region ≡ Some r → with_watched t pid addr size later ≡ later p r
    in_watched r is =
        at_alive t pid p _ lives ∙ at_met t code.InvalidParameter (not (size == 0)) _ (ap not some)
        ∙ at_found t code.InvalidParameter (watched_around p.regions (range_of addr size)) r (λ r. later p r) (ap (watched_around p.regions) (sym named) ∙ is)

    in_none : is_some watched_region ≡ false → with_watched t pid addr size later ≡ refused t code.InvalidParameter
    in_none none =
        at_alive t pid p _ lives ∙ at_met t code.InvalidParameter (not (size == 0)) _ (ap not some)
        ∙ at_missing t code.InvalidParameter (watched_around p.regions (range_of addr size)) (λ r. later p r) (ap (λ (x : Range). is_some (watched_around p.regions x)) (sym named) ∙ none)

  -- ---- the calls, by what was found

  module _ (unwrites : Bool) (count : ℕ) where
    abbrev told : Option (Found (RegionOf (Unit {0}))) → Option (List ℕ)
    told o = option_map (λ r. map address_of (written_in r.thing range count)) o

    pub watch_gives : (after : Tables) (pages : List ℕ) → Some pages ≡ told watched_region → ((r : Found (RegionOf (Unit {0}))) → watched_region ≡ Some r → after ≡ after_watch t pid p r unwrites range count) → watch t pid unwrites addr size count ≡ record { answer = answer.Watched pages; world = after }
    watch_gives after pages given becomes =
        let r = mapped (λ (r : Found (RegionOf (Unit {0}))). map address_of (written_in r.thing range count)) watched_region pages (sym given) in
        in_watched _ r.0 r.1.0
        ∙ ap (λ (x : Range). done (answer.Watched (map address_of (written_in r.0.thing x count))) (after_watch t pid p r.0 unwrites x count)) (sym named)
        ∙ (λ i. done (answer.Watched (r.1.1 i)) (sym (becomes r.0 r.1.0) i))

    pub watch_refused : (after : Tables) → None ≡ told watched_region → (watched_region ≡ None → after ≡ t) → watch t pid unwrites addr size count ≡ refused after code.InvalidParameter
    watch_refused after none same =
        let is = sym (some_map (λ (r : Found (RegionOf (Unit {0}))). map address_of (written_in r.thing range count)) watched_region) ∙ ap is_some (sym none) in
        in_none _ is ∙ ap (λ (w : Tables). refused w code.InvalidParameter) (sym (same (none_of watched_region is)))

  pub reset_done : (after : Tables) → is_some watched_region ≡ true → ((r : Found (RegionOf (Unit {0}))) → watched_region ≡ Some r → after ≡ set_region t pid p r.place (mark_written false range r.thing)) → reset_watch t pid addr size ≡ record { answer = answer.Ok; world = after }
  reset_done after there becomes =
      let r = some_found watched_region there in
      in_watched _ r.0 r.1
      ∙ ap (λ (x : Range). done answer.Ok (set_region t pid p r.0.place (mark_written false x r.0.thing))) (sym named)
      ∙ ap (λ (w : Tables). done answer.Ok w) (sym (becomes r.0 r.1))

  pub reset_refused : (after : Tables) → is_some watched_region ≡ false → (watched_region ≡ None → after ≡ t) → reset_watch t pid addr size ≡ refused after code.InvalidParameter
  reset_refused after none same = in_none _ none ∙ ap (λ (w : Tables). refused w code.InvalidParameter) (sym (same (none_of watched_region none)))

-- ---- whether the pages that were told are unwritten

module _ (t : Tables) (pid : ℕ) (p : ProcessOf (Unit {0})) (r : Found (RegionOf (Unit {0}))) (unwrites : Bool) (range : Range) (count : ℕ) where
  pub after_taken : (after : Tables) → unwrites ≡ true → after ≡ set_region t pid p r.place (change_flags (unwritten r.thing.base (written_in r.thing range count)) r.thing) → after ≡ after_watch t pid p r unwrites range count
  after_taken after e is = subst (λ b. after ≡ after_watch t pid p r b range count) (sym e) is

  pub after_told : unwrites ≡ false → t ≡ after_watch t pid p r unwrites range count
  after_told e = subst (λ b. t ≡ after_watch t pid p r b range count) (sym e) refl
