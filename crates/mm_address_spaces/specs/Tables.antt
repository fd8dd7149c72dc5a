-- The regions of one process as contracts see them, and what is read off them.
-- Profile, "Regions, rows, sections".
use Rattle.std.specs.Prelude.{ℕ, ◌-◌, not, is_some, List, [], take, drop, count_by, Option, Some, None, option_map, option_and_then}
use Rattle.mm_types.specs.{Range}
use Rattle.mm_world.specs.{RowOf, RegionOf, pages_of, Found, region_with, region_around, row_at}
use Rattle.mm_address_spaces.specs.declared.spaces.RegionInfo.{RegionInfo}
use Rattle.mm_address_spaces.specs.declared.spaces.PageRow.{PageRow}

-- what an `AddressSpace` is seen as: its regions, and how many more can be added without memory
pub record RegionsOf : Type 0 where
  pub regions : List (RegionOf (Unit {0}))
  pub spare : ℕ

-- what is told of a region, and of a row
abbrev pub info_of : RegionOf (Unit {0}) → RegionInfo
info_of r = record { pages = pages_of r; kind = r.kind }

abbrev pub found_info : Found (RegionOf (Unit {0})) → RegionInfo
found_info r = info_of r.thing

abbrev pub told_row : RegionOf (Unit {0}) → ℕ → RowOf (Unit {0}) → PageRow
told_row r page row =
    record {
      kind = r.kind;
      index = page - r.base;
      prot = record { 0 = row.prot };
      guard = row.guard;
      marked = row.marked;
      owned = is_some row.own;
      watched = is_some r.watched;
    }

abbrev pub told_page_row : List (RegionOf (Unit {0})) → ℕ → Option PageRow
told_page_row regions page =
    option_and_then (λ r. option_map (told_row r.thing page) (row_at r.thing page))
    (region_with regions page)

module _ {B : Type 0} where
  abbrev pub rows_of_range : Range → Option (Found (RegionOf B)) → List (RowOf B)
  rows_of_range range None = []
  rows_of_range range (Some r) = take range.count (drop (range.first - r.thing.base) r.thing.rows)

  -- the rows of a range that lies in one region
  abbrev pub rows_in_range : List (RegionOf B) → Range → List (RowOf B)
  rows_in_range regions range = rows_of_range range (region_around regions range)

  -- how many of them have bytes of their own, have no mark, have one
  abbrev pub owned_in : List (RegionOf B) → Range → ℕ
  owned_in regions range = count_by (λ row. is_some row.own) (rows_in_range regions range)

  abbrev pub unmarked_in : List (RegionOf B) → Range → ℕ
  unmarked_in regions range = count_by (λ row. not row.marked) (rows_in_range regions range)

  abbrev pub marked_in : List (RegionOf B) → Range → ℕ
  marked_in regions range = count_by (λ row. row.marked) (rows_in_range regions range)
