-- What look-ups find in an address space.
-- Profile, "Regions, rows, sections".
use Rattle.std.specs.Prelude.{◌≡◌, ◌<◌, ◌≤◌, ℕ, ◌+◌, ◌-◌, Bool, ◌&&◌, ◌==◌, if◌then◌else◌, List, Option, Some, None, length}
use Rattle.mm_types.specs.{Range, lies_within, address_of, page_of, end_of_user_pages}
use Rattle.mm_vad.specs.{Region, HasFlags}
use Rattle.mm_world.specs.{RegionOf, pages_of, Found, first_where, region_with, region_around, RowsFit}
use Rattle.mm_address_spaces.specs.Shown.{region_of}

-- the region in which a page lies, as it is kept
pub record IsRegionAt (regions : List (RegionOf (Unit {0}))) (page : ℕ) (r : Region) : Type 0 where
  pub found : Found (RegionOf (Unit {0}))
  pub there : region_with regions page ≡ Some found
  pub is_shown : found.thing ≡ region_of r
  pub rows : length r.rows ≡ r.pages
  pub flags : HasFlags r.pages r
  pub low : r.base.0 ≤ page
  pub high : page - r.base.0 < length r.rows
  pub within : r.base.0 + r.pages ≤ end_of_user_pages
  pub fit : RowsFit (region_of r)

-- the first region that passes both tests
abbrev pub both_where : (RegionOf (Unit {0}) → Bool) → (RegionOf (Unit {0}) → Bool) →
    List (RegionOf (Unit {0})) → Option (Found (RegionOf (Unit {0})))
both_where t test regions = first_where (λ x. t x && test x) regions

abbrev pub found_if : Bool → Found (RegionOf (Unit {0})) → Option (Found (RegionOf (Unit {0})))
found_if b f = if b then Some f else None

abbrev pub surrounds : Range → RegionOf (Unit {0}) → Bool
surrounds range x = lies_within range (pages_of x)

abbrev pub is_based : ℕ → RegionOf (Unit {0}) → Bool
is_based addr x = address_of x.base == addr

-- the one region in which all pages of the range lie
pub record IsAround (regions : List (RegionOf (Unit {0}))) (range : Range) (r : Region) :
    Type 0 where
  pub at : IsRegionAt regions range.first r
  pub high : range.first - r.base.0 + range.count ≤ length r.rows
  pub around : region_around regions range ≡ Some at.found
  pub only : (t : RegionOf (Unit {0}) → Bool) →
      both_where t (surrounds range) regions ≡ found_if (t at.found.thing) at.found

pub record NoneAround (regions : List (RegionOf (Unit {0}))) (range : Range) : Type 0 where
  pub around : region_around regions range ≡ None
  pub only : (t : RegionOf (Unit {0}) → Bool) → both_where t (surrounds range) regions ≡ None

-- the one region whose base is the address, to the byte
pub record IsBased (regions : List (RegionOf (Unit {0}))) (addr : ℕ) (r : Region) : Type 0 where
  pub at : IsRegionAt regions (page_of addr) r
  pub only : (t : RegionOf (Unit {0}) → Bool) →
      both_where t (is_based addr) regions ≡ found_if (t at.found.thing) at.found

pub record NoneBased (regions : List (RegionOf (Unit {0}))) (addr : ℕ) : Type 0 where
  pub only : (t : RegionOf (Unit {0}) → Bool) → both_where t (is_based addr) regions ≡ None
