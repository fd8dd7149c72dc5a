-- What calls make of the rows of a range that lies in a region.
-- Profile, "Calls".
use Rattle.std.specs.Prelude.{◌≡◌, ◌≤◌, ◌<◌, ℕ, ◌-◌, Bool, false, true, is_some, List, Some, slice_set}
use Rattle.mm_types.specs.{Kind, Range, end_of, base_of, readwrite}
use Rattle.mm_world.specs.{RowOf, RegionOf, Found, region_with, region_around, is_private, is_one_of, private_protections, protections_of, row_at}
use Rattle.mm_world.specs.{reserved_row, commit, protected, change_rows}
use Rattle.mm_address_spaces.specs.declared.rows.RowChange.{RowChange}
use Rattle.mm_address_spaces.specs.declared.rows.RowChange.TheVariants as change

-- a row after the change, in a region of this kind
abbrev pub changed_row : RowChange → Kind → RowOf (Unit {0}) → RowOf (Unit {0})
changed_row (change.Commit prot) kind = commit tt prot
changed_row change.Decommit kind = λ row. reserved_row
changed_row (change.Protect prot) kind = protected kind prot
changed_row change.GuardOff kind = λ row. record row { guard = false }
changed_row change.Copy kind = λ row. record row { own = Some tt; prot = readwrite }

-- all pages of the range lie in one region
abbrev pub IsInRegion : List (RegionOf (Unit {0})) → Range → Type 0
IsInRegion regions range = is_some (region_around regions range) ≡ true

-- whether a page has bytes of its own; a private page has exactly where it is committed
abbrev pub owns : RowOf (Unit {0}) → Bool
owns row = is_some row.own

-- a row of a region of this kind can be changed so
abbrev pub CanChange : RowChange → Kind → RowOf (Unit {0}) → Type 0
CanChange (change.Commit prot) kind row =
    (is_private kind ≡ true) × (is_one_of private_protections (base_of prot) ≡ true)
CanChange change.Decommit kind row = is_private kind ≡ true
CanChange (change.Protect prot) kind row =
    (is_one_of (protections_of kind row) (base_of prot) ≡ true) ×
    (is_private kind ≡ true → owns row ≡ true)
CanChange change.GuardOff kind row = Unit {0}
CanChange change.Copy kind row = (is_private kind ≡ false) × (row.marked ≡ true)

-- the row of a page can be, and so can those of a range that lies in one region
abbrev pub CanChangeRow : RowChange → List (RegionOf (Unit {0})) → ℕ → Type 0
CanChangeRow change regions page =
    (r : Found (RegionOf (Unit {0}))) (row : RowOf (Unit {0})) → region_with regions page ≡ Some r →
    row_at r.thing page ≡ Some row → CanChange change r.thing.kind row

abbrev pub CanChangeRows : RowChange → List (RegionOf (Unit {0})) → Range → Type 0
CanChangeRows change regions range =
    (r : Found (RegionOf (Unit {0}))) → region_around regions range ≡ Some r →
    (page : ℕ) (row : RowOf (Unit {0})) → range.first ≤ page → page < end_of range →
    row_at r.thing page ≡ Some row → CanChange change r.thing.kind row

-- the row of the page was changed, and nothing else
abbrev pub RowChanged : RowChange → ℕ → List (RegionOf (Unit {0})) → List (RegionOf (Unit {0})) →
    Type 0
RowChanged change page old new =
    (r : Found (RegionOf (Unit {0}))) (row : RowOf (Unit {0})) → region_with old page ≡ Some r →
    row_at r.thing page ≡ Some row →
    new ≡ slice_set old r.place (record r.thing {
      rows = slice_set r.thing.rows (page - r.thing.base) (changed_row change r.thing.kind row);
    })

-- the rows of the range, which begins in a region and lies in it, were changed, and nothing else
abbrev pub RunChanged : RowChange → Range → List (RegionOf (Unit {0})) →
    List (RegionOf (Unit {0})) → Type 0
RunChanged change range old new =
    (r : Found (RegionOf (Unit {0}))) → region_with old range.first ≡ Some r →
    new ≡ slice_set old r.place (change_rows (changed_row change r.thing.kind) range r.thing)

-- the rows of the range, which lies in one region, were changed, and nothing else
abbrev pub RowsChanged : RowChange → Range → List (RegionOf (Unit {0})) →
    List (RegionOf (Unit {0})) → Type 0
RowsChanged change range old new =
    (r : Found (RegionOf (Unit {0}))) → region_around old range ≡ Some r →
    new ≡ slice_set old r.place (change_rows (changed_row change r.thing.kind) range r.thing)
