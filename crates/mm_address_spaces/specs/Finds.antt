-- What an address space keeps.
use Rattle.std.specs.Prelude.{◌≡◌, List, length}
use Rattle.mm_vad.specs.{Region, IsSpace as IsVad}
use Rattle.mm_world.specs.{IsSpace, FlagsFit}
use Rattle.mm_address_spaces.specs.Shown.{region_of, shown_regions}

-- regions that lie apart on granules, their rows in order
pub record IsKeptSpace (regions : List Region) : Type 0 where
  pub sound : IsSpace (shown_regions regions)
  pub whole : IsVad regions

-- a region that is ready to be added: as many rows as pages, and where it is watched as many flags
pub record IsWholeRegion (r : Region) : Type 0 where
  pub rows : length r.rows ≡ r.pages
  pub flags : FlagsFit (region_of r)
