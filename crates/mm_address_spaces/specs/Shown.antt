-- The regions of an address space as the definitions of worlds have them, read off those that
-- `mm_vad` keeps. Profile, "Regions, rows, sections".
use Rattle.std.specs.Prelude.{ℕ, Bool, false, if◌then◌else◌, List, map, replicate, Option, Some, None}
use Rattle.mm_types.specs.{Kind, ViewAccess}
use Rattle.mm_types.specs.declared.views.Kind.TheVariants as kind
use Rattle.mm_vad.specs.{Row, Region}
use Rattle.mm_world.specs.{RowOf, RegionOf, first_protection, is_copy}

-- whether the page has bytes of its own: a private row where it is committed, a view's where it was
-- copied
abbrev pub has_own : Kind → Row → Bool
has_own kind.Private row = row.committed
has_own (kind.View v) row = row.copied

abbrev pub shown_row : Kind → Row → RowOf (Unit {0})
shown_row kind row =
    record {
      prot = row.prot.0;
      guard = row.guard;
      marked = row.marked;
      own = if has_own kind row then Some tt else None;
    }

-- the row of each page of a new view
abbrev pub new_view_row : ViewAccess → RowOf (Unit {0})
new_view_row access =
    record { prot = first_protection access; guard = false; marked = is_copy access; own = None }

abbrev pub region_of : Region → RegionOf (Unit {0})
region_of r = record {
  base = r.base.0;
  alloc_prot = r.alloc_prot.0;
  kind = r.kind;
  rows = map (shown_row r.kind) r.rows;
  watched = r.watched;
}

-- the flags of a region of so many pages, none of them written, where it is watched
abbrev pub new_flags : Bool → ℕ → Option (List Bool)
new_flags watched n = if watched then Some (replicate n false) else None

abbrev pub shown_regions : List Region → List (RegionOf (Unit {0}))
shown_regions regions = map region_of regions
