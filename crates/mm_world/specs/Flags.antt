-- The flags of watched regions, page by page.
-- No rule of the profile: words of laws on written pages.
use Rattle.std.specs.Prelude.{◌≡◌, ◌≤◌, ◌<◌, ℕ, ◌+◌, ◌-◌, Bool, true, false, is_some, List, map, take, filter, Option, Some, slice_get, option_and_then, unwrap_or}
use Rattle.std.specs.List.{range_with_len}
use Rattle.mm_types.specs.{Answer, Event, Range, address_of}
use Rattle.mm_world.specs.World.{RegionOf, World, WorldOf}
use Rattle.mm_world.specs.Find.{region_with, process_of}
use Rattle.mm_world.specs.Step.{kept_by}
use Rattle.mm_world.specs.Written.{kept_writes, line_begins, written_after}

module _ {B : Type 0} where
  abbrev pub flag_in : RegionOf B → ℕ → Option Bool
  flag_in r page = option_and_then (λ flags. slice_get flags (page - r.base)) r.watched

  abbrev pub flag_at : List (RegionOf B) → ℕ → Option Bool
  flag_at regions page = option_and_then (λ r. flag_in r.thing page) (region_with regions page)

  -- whether the page was written; none where no watched region has it
  abbrev pub flag_of : WorldOf B → ℕ → ℕ → Option Bool
  flag_of w pid page = option_and_then (λ p. flag_at p.regions page) (process_of w pid)

  abbrev pub is_flagged : WorldOf B → ℕ → ℕ → Bool
  is_flagged w pid page = unwrap_or (flag_of w pid page) false

-- of a page that has this flag after the line: the line made its region, or it had a flag before,
-- and has the one that the line and its answer tell
pub data FlagTold (w : World) (e : Event) (a : Answer) (pid page : ℕ) (flag : Bool) : Type 0 where
  Begun : line_begins pid page e a ≡ true → flag ≡ false → FlagTold w e a pid page flag
  Told : (was : Bool) → flag_of w pid page ≡ Some was → line_begins pid page e a ≡ false →
      flag ≡ written_after pid page (λ tid. kept_writes pid page (kept_by w tid)) was e a →
      FlagTold w e a pid page flag

-- each page of the range has a flag, and these are the addresses of the lowest that are written, at
-- most `count`
pub record GivesFlagged {B : Type 0} (w : WorldOf B) (pid : ℕ) (range : Range) (count : ℕ)
    (addresses : List ℕ) : Type 0 where
  pub flagged : (page : ℕ) → range.first ≤ page → page < range.first + range.count →
      is_some (flag_of w pid page) ≡ true
  pub given : addresses ≡
      map address_of
      (take count (filter (is_flagged w pid) (range_with_len range.first range.count)))
