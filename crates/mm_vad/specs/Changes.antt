-- What a change of some pages, the first of them this one, makes of their region.
use Rattle.std.specs.Prelude.{ℕ, true, false, List, IsSome}
use Rattle.mm_vad.specs.declared.regions.Change.{Change}
use Rattle.mm_vad.specs.declared.regions.Change.TheVariants as change
use Rattle.mm_vad.specs.declared.regions.Region.{Region}
use Rattle.mm_vad.specs.Regions.{HasFlags, HasPages, LieAmong, LieInRegion, LieWithPage, region_at, with_equal_rows, with_marks, with_unwritten}

abbrev pub change_by : Change → ℕ → Region → Region
change_by (change.FillRows n row) page = with_equal_rows page n row
change_by change.Mark page = with_marks true page 1
change_by (change.ClearMarks n) page = with_marks false page n
change_by (change.Unwrite pages) page = with_unwritten pages.now

-- the pages that change lie in one of the regions
abbrev pub CanChangeAt : Change → List Region → ℕ → Type 0
CanChangeAt (change.FillRows n row) regions page = LieInRegion regions page n
CanChangeAt change.Mark regions page = IsSome (region_at regions page)
CanChangeAt (change.ClearMarks n) regions page = LieInRegion regions page n
CanChangeAt (change.Unwrite pages) regions page = LieWithPage regions page pages.now

-- the pages that change are the region's
abbrev pub FitsRegion : Change → ℕ → Region → Type 0
FitsRegion (change.FillRows n row) page r = HasPages r page n
FitsRegion change.Mark page r = HasPages r page 1
FitsRegion (change.ClearMarks n) page r = HasPages r page n
FitsRegion (change.Unwrite pages) page r = LieAmong r.base.0 r.pages pages.now × HasFlags r.pages r
