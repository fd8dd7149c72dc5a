-- Stacks have private regions of processes that live.
-- Profile, "Watched regions and stacks".
use Rattle.std.specs.Prelude.{Bool, true, false, ◌&&◌, ◌==◌, nat_lt, Option, Some, None}
use Rattle.std.specs.List.{list_any, list_all}
use Rattle.mm_types.specs.{holds_page}
use Rattle.mm_world.specs.World.{RegionOf, ProcessOf, StackOf, WorldOf, pages_of}
use Rattle.mm_world.specs.Find.{process_of, is_private}

module _ {B : Type 0} where
  -- a private region with the base of the stack, which holds its guard page
  abbrev pub is_stack_region : StackOf → RegionOf B → Bool
  is_stack_region s r = is_private r.kind &&
      ((r.base == s.base) && holds_page (pages_of r) s.guard_page)

  abbrev pub holds_stack : StackOf → Option (ProcessOf B) → Bool
  holds_stack s None = false
  holds_stack s (Some p) = list_any (is_stack_region s) p.regions

  -- the process lives, and the guard page is above the base page
  abbrev pub is_stacked : WorldOf B → StackOf → Bool
  is_stacked w s = nat_lt s.base s.guard_page && holds_stack s (process_of w s.pid)

  abbrev pub is_place : WorldOf B → Option StackOf → Bool
  is_place w None = true
  is_place w (Some s) = is_stacked w s

  abbrev pub are_stacked : WorldOf B → Bool
  are_stacked w = list_all (is_place w) w.stacks
