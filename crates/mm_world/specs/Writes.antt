-- The writes that threads keep, by the page that each is to.
-- Profile, "Accesses" and "Watched regions and stacks".
use Rattle.std.specs.Prelude.{ℕ, Bool, true, false, ◌==◌, if◌then◌else◌, List, map, Option, Some, None, slice_set}
use Rattle.mm_types.specs.{Answer, AccessSpec, Event, Place, page_of}
use Rattle.mm_types.specs.declared.answers.Answer.TheVariants as answer
use Rattle.mm_types.specs.declared.events.AccessSpec.TheVariants as spec
use Rattle.mm_types.specs.declared.events.Event.TheVariants as line
use Rattle.mm_world.specs.World.{KeptOf, WorldOf}

abbrev pub written_place : ℕ → ℕ → Place
written_place pid addr = record { pid = record { 0 = pid }; vpn = record { 0 = page_of addr } }

-- the page that an access writes
abbrev pub page_written : ℕ → AccessSpec → Option Place
page_written pid (spec.Read addr len) = None
page_written pid (spec.Write addr bytes) = Some (written_place pid addr)

abbrev pub write_of : Option KeptOf → Option Place
write_of None = None
write_of (Some k) = page_written k.pid k.access

-- of each thread, the page that the access writes which it keeps
abbrev pub writes_of : {B : Type 0} → WorldOf B → List (Option Place)
writes_of w = map write_of w.kept

abbrev pub unless_in : ℕ → Option Place → Option Place
unless_in pid None = None
unless_in pid (Some place) = if place.pid.0 == pid then None else Some place

-- answers of a `resume` that end no access: it goes on waiting, or there is none
abbrev pub ends_none : Answer → Bool
ends_none (answer.Pending why) = true
ends_none answer.Nothing = true
ends_none _ = false

-- the same after a line, from its answer
abbrev pub writes_after : List (Option Place) → Event → Answer → List (Option Place)
writes_after writes (line.Begin tid pid what) (answer.Pending why) =
    slice_set writes tid.0 (page_written pid.0 what)
writes_after writes (line.Resume tid) a = if ends_none a then writes else
    slice_set writes tid.0 None
writes_after writes (line.Exit pid) answer.Ok = map (unless_in pid.0) writes
writes_after writes _ _ = writes
