-- Private regions of processes, by their pages, and the lines that end them.
-- Profile, "Calls" (free, exit).
use Rattle.std.specs.Prelude.{ℕ, Bool, false, not, is_some, ◌&&◌, ◌||◌, ◌==◌, Option, Some, None}
use Rattle.std.specs.List.{list_any}
use Rattle.mm_types.specs.{Answer, Event, Range, address_of, release_type}
use Rattle.mm_types.specs.declared.answers.Answer.TheVariants as answer
use Rattle.mm_types.specs.declared.events.Event.TheVariants as line
use Rattle.mm_world.specs.World.{RegionOf, ProcessOf, WorldOf, pages_of}
use Rattle.mm_world.specs.Find.{process_of, is_private}

-- some pages of a process, as those of a private region
pub record PagesOf : Type 0 where
  pub pid : ℕ
  pub range : Range
  pub watched : Bool  -- of a watched one

abbrev pub is_same_range : Range → Range → Bool
is_same_range a b = (a.first == b.first) && (a.count == b.count)

module _ {B : Type 0} where
  -- a private region of exactly these pages
  abbrev pub is_private_region : Range → RegionOf B → Bool
  is_private_region range r = is_private r.kind && is_same_range (pages_of r) range

  -- a watched one, where one is asked for
  abbrev pub is_asked_region : PagesOf → RegionOf B → Bool
  is_asked_region x r = (not x.watched || is_some r.watched) && is_private_region x.range r

  abbrev pub holds_asked : PagesOf → Option (ProcessOf B) → Bool
  holds_asked x None = false
  holds_asked x (Some p) = list_any (is_asked_region x) p.regions

  -- the process lives, and has a private region of exactly these pages
  abbrev pub is_region_of : WorldOf B → PagesOf → Bool
  is_region_of w x = holds_asked x (process_of w x.pid)

abbrev pub is_released_by : ℕ → ℕ → PagesOf → Bool
is_released_by pid addr x = (x.pid == pid) && (address_of x.range.first == addr)

-- the line released the region, or ended its process
abbrev pub line_ends : Event → Answer → PagesOf → Bool
line_ends (line.Free pid addr size type) answer.Ok x = (type == release_type) &&
    is_released_by pid.0 addr x
line_ends (line.Exit pid) answer.Ok x = x.pid == pid.0
line_ends _ _ x = false
