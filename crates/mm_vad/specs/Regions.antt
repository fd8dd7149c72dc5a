-- The regions of an address space, in rising order of base, as contracts see them.
-- Profile, "Regions, rows, sections".
use Rattle.std.specs.Prelude.{◌≡◌, ℕ, ◌+◌, ◌-◌, ◌<◌, ◌≤◌, Bool, nat_le, nat_lt, ◌==◌, if◌then◌else◌, List, [], ◌∷◌, length, map, All, Option, IfSome, IsSomeAnd, option_map, find, insert, remove, count_by}
use Rattle.std.specs.List.{position_or_len}
use Rattle.mm_types.specs.{Range, holds_page, page_of, first_user_page}
use Rattle.mm_world.specs.{change_range, unwritten}
use Rattle.mm_vad.specs.Ranges.{LieApart}
use Rattle.mm_vad.specs.declared.pages.Row.{Row}
use Rattle.mm_vad.specs.declared.regions.Region.{Region}
use Rattle.mm_vad.specs.Chunks.{filled_rows}

-- what a `Space` is seen as: its regions, and how many more can be added without memory
pub record SpaceOf : Type 0 where
  pub regions : List Region
  pub spare : ℕ

abbrev pub region_range : Region → Range
region_range r = record { first = r.base.0; count = r.pages }

abbrev pub region_ranges : List Region → List Range
region_ranges regions = map region_range regions

-- a flag for each of so many pages, where the region is watched
abbrev pub HasFlags : ℕ → Region → Type 0
HasFlags n r = IfSome r.watched (λ flags. length flags ≡ n)

-- so many pages from this one on are the region's, which has a row for each of its pages and, where
-- it is watched, a flag
pub record HasPages (r : Region) (page n : ℕ) : Type 0 where
  pub low : r.base.0 ≤ page
  pub within : page - r.base.0 + n ≤ r.pages
  pub whole : length r.rows ≡ r.pages
  pub flags : HasFlags r.pages r

-- each region has a page, all are user pages, no page lies in two regions, and the bases rise; a
-- region has as many rows as pages, and a watched one as many flags
pub record IsSpace (regions : List Region) : Type 0 where
  pub apart : LieApart first_user_page (region_ranges regions)
  pub whole : All (λ r. length r.rows ≡ r.pages) regions
  pub flags : All (λ r. HasFlags r.pages r) regions

abbrev pub region_holds : ℕ → Region → Bool
region_holds page r = holds_page (region_range r) page

-- the region in which the page lies
abbrev pub region_at : List Region → ℕ → Option Region
region_at regions page = find (region_holds page) regions

-- the first region whose base is the page or above it
abbrev pub region_from : List Region → ℕ → Option Region
region_from regions page = find (λ r. nat_le page r.base.0) regions

abbrev pub begins_at : ℕ → Region → Bool
begins_at base r = r.base.0 == base

abbrev pub region_with_base : List Region → ℕ → Option Region
region_with_base regions base = find (begins_at base) regions

-- the regions with one more, in its place by base
abbrev pub add_region : List Region → Region → List Region
add_region regions new = insert regions (count_by (λ r. nat_lt r.base.0 new.base.0) regions) new

-- the regions without the one that has the base, if one has it
abbrev pub remove_region : List Region → ℕ → List Region
remove_region regions base = remove regions (position_or_len (begins_at base) regions)

-- the regions with the one changed in which the page lies
abbrev pub change_region : (Region → Region) → List Region → ℕ → List Region
change_region change [] page = []
change_region change (r ∷ rs) page = let later = change_region change rs page in
    if region_holds page r then change r ∷ rs else r ∷ later

-- the region with the rows of `n` pages from this one on equal to one
abbrev pub with_equal_rows : ℕ → ℕ → Row → Region → Region
with_equal_rows page n row r = record r { rows = filled_rows r.rows (page - r.base.0) n row }

abbrev pub fill_rows : List Region → ℕ → ℕ → Row → List Region
fill_rows regions page n row = change_region (with_equal_rows page n row) regions page

-- where the region is watched, `n` of its pages from this one on are written or not from now on
abbrev pub with_marks : Bool → ℕ → ℕ → Region → Region
with_marks b page n r = record r {
  watched = option_map (change_range (λ was. b) (page - r.base.0) n) r.watched;
}

abbrev pub set_marks : Bool → List Region → ℕ → ℕ → List Region
set_marks b regions page n = change_region (with_marks b page n) regions page

-- where the region is watched, the pages of these addresses are unwritten from now on
abbrev pub with_unwritten : List ℕ → Region → Region
with_unwritten addresses r = record r {
  watched = option_map (unwritten r.base.0 (map page_of addresses)) r.watched;
}

-- each of the addresses is in one of so many pages from this one on
abbrev pub LieAmong : ℕ → ℕ → List ℕ → Type 0
LieAmong first n [] = Unit {0}
LieAmong first n (a ∷ later) = (first ≤ page_of a) × (page_of a < first + n) ×
    LieAmong first n later

-- each of the addresses is in the region of this page
abbrev pub LieWithPage : List Region → ℕ → List ℕ → Type 0
LieWithPage regions page addresses =
    IsSomeAnd (region_at regions page) (λ r. LieAmong r.base.0 r.pages addresses)

-- so many pages from this one on lie in one region
abbrev pub LieInRegion : List Region → ℕ → ℕ → Type 0
LieInRegion regions page n = IsSomeAnd (region_at regions page) (λ r. page - r.base.0 + n ≤ r.pages)
