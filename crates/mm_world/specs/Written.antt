-- Whether a page of a watched region is written, told by lines and their answers alone
-- (GetWriteWatch). Profile, "Watched regions and stacks".
use Rattle.std.specs.Prelude.{ℕ, Bool, true, false, ◌&&◌, ◌==◌, if◌then◌else◌, Option, Some, None}
use Rattle.std.specs.List.{list_any}
use Rattle.mm_types.specs.{Answer, AccessSpec, Event, Range, page_of, pages_for, range_of, granule_range_of, holds_page}
use Rattle.mm_types.specs.declared.answers.Answer.TheVariants as answer
use Rattle.mm_types.specs.declared.events.AccessSpec.TheVariants as spec
use Rattle.mm_types.specs.declared.events.Event.TheVariants as line
use Rattle.mm_world.specs.World.{KeptOf}
use Rattle.mm_world.specs.Alloc.{is_watched_type}

-- the pages of the region that an `alloc` made at this base
abbrev pub reserved_range : ℕ → ℕ → ℕ → Range
reserved_range addr size base =
    if addr == 0 then record {
      first = page_of base;
      count = pages_for size;
    } else granule_range_of addr size

module _ (pid page : ℕ) where
  -- ---- accesses

  abbrev pub is_this_page : ℕ → ℕ → Bool
  is_this_page by addr = (by == pid) && (page_of addr == page)

  abbrev pub access_writes : ℕ → AccessSpec → Bool
  access_writes by (spec.Read addr len) = false
  access_writes by (spec.Write addr bytes) = is_this_page by addr

  abbrev pub kept_writes : Option KeptOf → Bool
  kept_writes None = false
  kept_writes (Some k) = access_writes k.pid k.access

  -- ---- lines

  -- the line made a watched region with the page
  abbrev pub line_begins : Event → Answer → Bool
  line_begins (line.Alloc by addr size type prot) (answer.At base) =
      (by.0 == pid) && (is_watched_type type && holds_page (reserved_range addr size base) page)
  line_begins _ _ = false

  -- the line made the page unwritten: a `resetwatch` of a range with the page, or a `watch` that
  -- unwrites and gave it
  abbrev pub line_clears : Event → Answer → Bool
  line_clears (line.ResetWatch by addr size) answer.Ok = (by.0 == pid) &&
      holds_page (range_of addr size) page
  line_clears (line.Watch by true addr size count) (answer.Watched addresses) =
      (by.0 == pid) && list_any (λ q. page_of q == page) addresses
  line_clears _ _ = false

  -- the line wrote to the page, where `keeps` tells of each thread whether it keeps a write to it
  abbrev pub line_wrote : (ℕ → Bool) → Event → Answer → Bool
  line_wrote keeps (line.Write by addr bytes) answer.Ok = is_this_page by.0 addr
  line_wrote keeps (line.Begin tid by what) answer.Ok = access_writes by.0 what
  line_wrote keeps (line.Resume tid) answer.Ok = keeps tid.0
  line_wrote keeps _ _ = false

  -- the page is not written where the line made its region or made it unwritten, and is where the
  -- line wrote to it; trims, write-outs, reads and decommits do not matter
  abbrev pub written_after : (ℕ → Bool) → Bool → Event → Answer → Bool
  written_after keeps was e a =
      if line_begins e a then false
      else if line_clears e a then false
      else if line_wrote keeps e a then true
      else was
