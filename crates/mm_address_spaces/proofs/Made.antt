-- Where pages are free, and what a change makes of the regions that are kept.
use Rattle.std.proofs.Common.{◌≡◌, ℕ, ◌%◌, ◌≤◌, Bool, true, false, List, Option, Some, None, option_map, inl, inr, refl, sym, ap, ◌∙◌, arith, cond, not, ◌&&◌, [], ◌∷◌, length, map, replicate, is_some, subst, nat_le, slice_get}
use Rattle.std.specs.Prelude.{IfSome, find, remove, ◌==◌}
use Rattle.std.specs.List.{list_any, position_or_len}
use Rattle.std.proofs.lemmas.Bool.{ne_eqb, eqb-true, eqb-false, le-leb}
use Rattle.std.specs.Cmp.{unsigned_Decides}
use Rattle.std.proofs.lemmas.List.{length-map}
use Rattle.std.proofs.lemmas.Option.{slice_get-map, IfSome_then}
use Rattle.mm_types.specs.{Vpn, Range, meets, is_free, are_user_pages, lowest_gap, View, page_of, address_of, granule_pages, first_user_page, base_of}
use Rattle.mm_types.specs.{reserve_type}
use Rattle.mm_types.proofs.{some_found}
use Rattle.mm_types.specs.declared.views.Kind.TheVariants as kind
use Rattle.mm_vad.specs.{page_number, Region, Row}
use Rattle.mm_vad.specs.Regions as vad
use Rattle.mm_world.specs.{placed, ranges_of, RegionOf, RowOf, SectionOf, pages_of, Found, first_where, region_with, add_region, is_private, new_row}
use Rattle.mm_world.specs.{private_region, blank, is_one_of, is_protection_among, private_protections, reserved_row, commit, view_region}
use Rattle.mm_world.specs.{first_protection, Each, IsSpace, RowsFit, RowFits, PrivateRowFits, ViewRowFits}
use Rattle.mm_world.proofs.{placed_is, map-replicate, each-remove, each-replicate, and-true, laid_remove, free_of, reserved_fits, commit_fits}
use Rattle.mm_world.proofs.{new_view_fits, space_add, some-map}
use Rattle.mm_address_spaces.specs.{new_view_row, shown_regions, shown_row, region_of, new_flags, IsKeptSpace, IsWholeRegion, both_where, is_based}
use Rattle.mm_address_spaces.proofs.Around.{Whole, ranges_shown, shown_pages, kept_if, both_based, was_found, place_of, first_shown, add_shown, remove_shown}
use Rattle.mm_address_spaces.proofs.RowsKept.{base_allowed}

pub free_by : (taken : List Range) (r : Range) → are_user_pages r ≡ true → list_any (meets r) taken ≡ false → is_free taken r ≡ true
free_by taken r user free = ap (λ a. a && not (list_any (meets r) taken)) user ∙ ap not free

abbrev pub IsGap : List Range → Range → Type 0
IsGap taken r = (are_user_pages r ≡ true) × (1 ≤ r.count) × (r.first % 16 ≡ 0) × (is_free taken r ≡ true)

gap_is : (taken : List Range) (addr : ℕ) (wanted : Range) (count : ℕ) (r : Range) → 1 ≤ count → 1 ≤ wanted.count → wanted.first % 16 ≡ 0 → placed taken addr wanted count ≡ Some r → IsGap taken r
gap_is taken addr wanted count r some any granule e =
    let at = placed_is taken addr wanted count r granule e in
    (at.placed.user, elim at.size [ inl k ↦ omega (arith, k, some) | inr k ↦ omega (arith, k, any) ], at.placed.on_granule, free_by taken r at.placed.user at.placed.free)

pub placed_gap : (taken : List Range) (addr : ℕ) (wanted : Range) (count : ℕ) (o : Option Range) → 1 ≤ count → 1 ≤ wanted.count → wanted.first % 16 ≡ 0 → o ≡ placed taken addr wanted count → IfSome o (IsGap taken)
placed_gap taken addr wanted count None some any granule e = tt
placed_gap taken addr wanted count (Some r) some any granule e = gap_is taken addr wanted count r some any granule (sym e)

-- ---- read off the regions that are kept

abbrev pub range_by : ℕ → ℕ → Range
range_by count first = record { first = first; count = count }

by_address : (taken : List Range) (addr : ℕ) (wanted : Range) (count : ℕ) → addr ≡ 0 → placed taken addr wanted count ≡ option_map (range_by count) (lowest_gap taken count)
by_address taken addr wanted count e = ap (λ (n : ℕ). placed taken n wanted count) e

module _ (vs : List Region) (whole : Whole vs) (addr : ℕ) (wanted : Range) (count : ℕ) where
  pub by_gap : (o : Option Vpn) → addr ≡ 0 → o ≡ option_map page_number (lowest_gap (vad.region_ranges vs) count) → placed (ranges_of (shown_regions vs)) addr wanted count ≡ option_map (λ (v : Vpn). range_by count v.0) o
  by_gap o e found =
      by_address (ranges_of (shown_regions vs)) addr wanted count e
      ∙ ap (λ taken. option_map (range_by count) (lowest_gap taken count)) (ranges_shown vs whole)
      ∙ by_number (lowest_gap (vad.region_ranges vs) count)
      ∙ ap (option_map (λ (v : Vpn). range_by count v.0)) (sym found)
    where
      by_number : (o : Option ℕ) → option_map (range_by count) o ≡ option_map (λ (v : Vpn). range_by count v.0) (option_map page_number o)
      by_number None = refl
      by_number (Some n) = refl

  pub by_wanted : (b : Bool) → (addr ≡ 0 → ⊥) → b ≡ is_free (vad.region_ranges vs) wanted → placed (ranges_of (shown_regions vs)) addr wanted count ≡ cond b (Some wanted) None
  by_wanted b other e =
      ap (λ z. cond z (option_map (range_by count) (lowest_gap (ranges_of (shown_regions vs)) count)) (cond (is_free (ranges_of (shown_regions vs)) wanted) (Some wanted) None)) (ne_eqb addr 0 other)
      ∙ ap (λ taken. cond (is_free taken wanted) (Some wanted) None) (ranges_shown vs whole)
      ∙ ap (λ z. cond z (Some wanted) None) (sym e)

-- ---- what a change makes of the regions that are kept

-- ---- a new private region

new_row_fits : (alloc_type prot : ℕ) → is_one_of private_protections (base_of prot) ≡ true → PrivateRowFits (new_row blank alloc_type prot)
new_row_fits alloc_type prot e = by_type (alloc_type == reserve_type)
  where
    by_type : (b : Bool) → PrivateRowFits (cond b reserved_row (commit (blank 0) prot reserved_row))
    by_type true = reserved_fits
    by_type false = commit_fits (blank 0) prot reserved_row e

abbrev region_by : ℕ → ℕ → ℕ → List Row → Option (List Bool) → Region
region_by first count prot rows flags = record { base = record { 0 = first }; pages = count; alloc_prot = record { 0 = prot }; kind = kind.Private; rows = rows; watched = flags }

module _ (watched : Bool) (alloc_type prot : ℕ) (range : Range) (rows : List Row) (flags : Option (List Bool)) (row : Row) (same : shown_row kind.Private row ≡ new_row blank alloc_type prot) (all : rows ≡ replicate range.count row) (unwritten : flags ≡ new_flags watched range.count) where
  rows_made : map (shown_row kind.Private) rows ≡ replicate range.count (new_row blank alloc_type prot)
  rows_made =
      ap (map (shown_row kind.Private)) all
      ∙ map-replicate (shown_row kind.Private) range.count row
      ∙ ap (replicate range.count) same

  pub region_made : region_of (region_by range.first range.count prot rows flags) ≡ private_region blank watched alloc_type prot range
  region_made = λ i. record { base = range.first; alloc_prot = prot; kind = kind.Private; rows = rows_made i; watched = unwritten i }

  pub made_fits : is_protection_among private_protections prot ≡ true → RowsFit (region_of (region_by range.first range.count prot rows flags))
  made_fits e =
      subst (λ (r : RegionOf (Unit {0})). RowsFit r) (sym region_made)
      (each-replicate (RowFits kind.Private) range.count _ (new_row_fits alloc_type prot (base_allowed prot e)))

-- ---- one region more

pub free_among : (vs : List Region) (r : Region) → Whole vs → IsWholeRegion r → is_free (ranges_of (shown_regions vs)) (pages_of (region_of r)) ≡ true → is_free (vad.region_ranges vs) (vad.region_range r) ≡ true
free_among vs r whole w e =
    sym (ap (λ taken. is_free taken (pages_of (region_of r))) (ranges_shown vs whole) ∙ ap (is_free (vad.region_ranges vs)) (shown_pages r w.rows)) ∙ e

pub record CanAdd (new : RegionOf (Unit {0})) (rs : List (RegionOf (Unit {0}))) : Type 0 where
  pub free : is_free (ranges_of rs) (pages_of new) ≡ true
  pub granule : new.base % granule_pages ≡ 0
  pub some : 1 ≤ length new.rows
  pub fit : RowsFit new

-- a flag for each page, where the region is watched
pub has_flags : (r : Region) → IsWholeRegion r → vad.HasFlags r.pages r
has_flags r w =
    IfSome_then r.watched {P = λ fs. (length fs ≡ length (map (shown_row r.kind) r.rows)) × (is_private r.kind ≡ true)} {Q = λ fs. length fs ≡ r.pages} w.flags
    (λ fs h. h.0 ∙ length-map r.rows (shown_row r.kind) ∙ w.rows)

pub can_add : (vs : List Region) (r : Region) (rs : List (RegionOf (Unit {0}))) (new : RegionOf (Unit {0})) → shown_regions vs ≡ rs → region_of r ≡ new → CanAdd new rs → CanAdd (region_of r) (shown_regions vs)
can_add vs r rs new same is can =
    subst (λ (g : RegionOf (Unit {0})). CanAdd g (shown_regions vs)) (sym is) (subst (λ (gs : List (RegionOf (Unit {0}))). CanAdd new gs) (sym same) can)

pub kept_add : (vs after : List Region) (r : Region) → IsKeptSpace vs → IsWholeRegion r → CanAdd (region_of r) (shown_regions vs) → after ≡ vad.add_region vs r → vad.IsSpace after → IsKeptSpace after
kept_add vs after r k w can e whole =
    let new = region_of r in
    let rs = shown_regions vs in
    let is : shown_regions after ≡ add_region new rs = ap shown_regions e ∙ add_shown vs r in
    record {
      sound = subst IsSpace (sym is) (space_add new rs (pages_of new) (free_of (ranges_of rs) (pages_of new) can.granule can.free) refl refl can.some w.flags can.fit k.sound);
      whole = whole;
    }

-- ---- one region less

pub kept_remove : (vs after : List Region) (base : ℕ) → IsKeptSpace vs → after ≡ vad.remove_region vs base → vad.IsSpace after → IsKeptSpace after
kept_remove vs after base k e whole =
    let rs = shown_regions vs in
    let i = position_or_len (vad.begins_at base) vs in
    let is : shown_regions after ≡ remove rs i = ap shown_regions e ∙ remove_shown vs base in
    record {
      sound = subst IsSpace (sym is) (record { laid_out = laid_remove first_user_page rs i k.sound.laid_out; rows = each-remove RowsFit rs i k.sound.rows });
      whole = whole;
    }

same_page : (a b addr : ℕ) → addr ≡ address_of b → (address_of a == addr) ≡ (a == b)
same_page a b addr at =
    elim (a == b) as (λ z. (a == b) ≡ z → (address_of a == addr) ≡ z) [
      | true ↦ λ e. (
          let same : address_of a ≡ addr = omega (arith, eqb-true a b e) in
          (unsigned_Decides (address_of a) addr).1 same)
      | false ↦ λ e. (let differ = eqb-false a b e in ne_eqb (address_of a) addr (λ i. differ (omega (arith, i, at))))
    ] refl

place_is : (t : Region → Bool) (vs : List Region) (o : Option Region) (r : Found (RegionOf (Unit {0}))) → option_map (place_of t vs) o ≡ Some r → position_or_len t vs ≡ r.place
place_is t vs None r e = cc
place_is t vs (Some g) r e =
    let same : place_of t vs g ≡ r = cc in
    ap (λ (f : Found (RegionOf (Unit {0}))). f.place) same

-- the region with the base is the one that is found, whatever else is asked of it
based : (t : RegionOf (Unit {0}) → Bool) (vs : List Region) (addr : ℕ) (r : Found (RegionOf (Unit {0}))) → IsKeptSpace vs → both_where t (is_based addr) (shown_regions vs) ≡ Some r → option_map (place_of (vad.begins_at (page_of addr)) vs) (find (vad.begins_at (page_of addr)) vs) ≡ Some r
based t vs addr r k e =
    let w = was_found (λ x. t x && is_based addr x) (region_with (shown_regions vs) (page_of addr)) r (sym (both_based t first_user_page (shown_regions vs) addr k.sound.laid_out) ∙ e) in
    let passes : is_based addr r.thing ≡ true = (and-true (t r.thing) (is_based addr r.thing) w.1).1 in
    let base : address_of r.thing.base ≡ addr = eqb-true (address_of r.thing.base) addr passes in
    let whole : addr ≡ address_of (page_of addr) = omega (arith, base) in
    let is : first_where (is_based addr) (shown_regions vs) ≡ Some r = both_based (λ x. true) first_user_page (shown_regions vs) addr k.sound.laid_out ∙ ap (kept_if (is_based addr)) w.0 ∙ ap (λ b. cond b (Some r) None) passes in
    let found = first_shown (is_based addr) (vad.begins_at (page_of addr)) vs k.whole.whole (λ x w. same_page x.base.0 (page_of addr) addr whole) in
    sym found ∙ is

-- it is the one that goes
pub removed_place : (t : RegionOf (Unit {0}) → Bool) (vs : List Region) (addr : ℕ) (r : Found (RegionOf (Unit {0}))) → IsKeptSpace vs → both_where t (is_based addr) (shown_regions vs) ≡ Some r → position_or_len (vad.begins_at (page_of addr)) vs ≡ r.place
removed_place t vs addr r k e = place_is (vad.begins_at (page_of addr)) vs (find (vad.begins_at (page_of addr)) vs) r (based t vs addr r k e)

pub is_there : (t : RegionOf (Unit {0}) → Bool) (vs : List Region) (addr : ℕ) → IsKeptSpace vs → is_some (both_where t (is_based addr) (shown_regions vs)) ≡ true → is_some (vad.region_with_base vs (page_of addr)) ≡ true
is_there t vs addr k e =
    let r = some_found (both_where t (is_based addr) (shown_regions vs)) e in
    sym (some-map (place_of (vad.begins_at (page_of addr)) vs) (find (vad.begins_at (page_of addr)) vs)) ∙ ap is_some (based t vs addr r.0 k r.1)

pub removed : (t : RegionOf (Unit {0}) → Bool) (vs after : List Region) (addr : ℕ) (r : Found (RegionOf (Unit {0}))) → IsKeptSpace vs → after ≡ vad.remove_region vs (page_of addr) → both_where t (is_based addr) (shown_regions vs) ≡ Some r → shown_regions after ≡ remove (shown_regions vs) r.place
removed t vs after addr r k e at =
    ap shown_regions e ∙ remove_shown vs (page_of addr) ∙ ap (remove (shown_regions vs)) (removed_place t vs addr r k at)

-- ---- the lowest region

always : (vs : List Region) → vad.region_from vs 0 ≡ slice_get vs 0
always [] = refl
always (x ∷ vs) = ap (λ b. cond b (Some x) (find (λ (r : Region). nat_le 0 r.base.0) vs)) (le-leb 0 x.base.0 (omega arith))

pub lowest_shown : (vs : List Region) (o : Option Region) → o ≡ vad.region_from vs 0 → slice_get (shown_regions vs) 0 ≡ option_map region_of o
lowest_shown vs o e = slice_get-map region_of vs 0 ∙ ap (option_map region_of) (sym (e ∙ always vs))

-- ---- a new view

abbrev view_by : ℕ → ℕ → ℕ → View → List Row → Region
view_by first count prot v rows = record { base = record { 0 = first }; pages = count; alloc_prot = record { 0 = prot }; kind = kind.View v; rows = rows; watched = None }

module _ (v : View) (prot : ℕ) (range : Range) (rows : List Row) (row : Row) (same_row : shown_row (kind.View v) row ≡ new_view_row v.access) (first : prot ≡ first_protection v.access) (all : rows ≡ replicate range.count row) where
  view_rows : map (shown_row (kind.View v)) rows ≡ replicate range.count (new_view_row v.access)
  view_rows =
      ap (map (shown_row (kind.View v))) all
      ∙ map-replicate (shown_row (kind.View v)) range.count row
      ∙ ap (replicate range.count) same_row

  abbrev with_view : ℕ → View → List (RowOf (Unit {0})) → RegionOf (Unit {0})
  with_view p x xs = record { base = range.first; alloc_prot = p; kind = kind.View x; rows = xs; watched = None }

  pub view_made : (s : Found SectionOf) → s.place ≡ v.section.0 → s.thing.area ≡ v.area.0 → region_of (view_by range.first range.count prot v rows) ≡ view_region s v.access v.first range
  view_made s place area = λ i. with_view (first i) (record { section = record { 0 = sym place i }; area = record { 0 = sym area i }; first = v.first; access = v.access }) (view_rows i)

  pub view_fits : RowsFit (region_of (view_by range.first range.count prot v rows))
  view_fits =
      subst (λ xs. Each (ViewRowFits v.access) xs) (sym view_rows) (each-replicate (ViewRowFits v.access) range.count (new_view_row v.access) (new_view_fits v.access))
