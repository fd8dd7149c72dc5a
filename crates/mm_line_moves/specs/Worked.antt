-- Worked lines.
-- Profile, "Logs of moves".
use Rattle.std.specs.Prelude.{ℕ, true, false, List, [], ◌∷◌, ◌++◌, take, replicate, unwrap_or, Some, None}
use Rattle.mm_types.specs.{Area, Key, Record, Move}
use Rattle.mm_types.specs.declared.numbers.Key.TheVariants.{Shared}
use Rattle.mm_types.specs.declared.frames.Request.TheVariants as request
use Rattle.mm_types.specs.declared.moves.LineKind.TheVariants as kind
use Rattle.mm_types.specs.declared.moves.Move.TheVariants as move
use Rattle.mm_types.specs.declared.views.Kind.TheVariants.{View}
use Rattle.mm_types.specs.declared.views.ViewAccess.TheVariants.{Write}
use Rattle.mm_move_rules.specs.{given, FrameLife, unstarted, replay_log, rewritten_log, smallest_set_log, pid, place, private}
use Rattle.mm_store.specs.{touch, nothing_behind, Aim}
use Rattle.mm_store.specs.Behind.{Behind}
use Rattle.mm_store.specs.Leaving.{Leaving}
use Rattle.mm_world.specs.{RegionOf, ProcessOf}

abbrev pub area : ℕ → Area
area a = record { 0 = a }

abbrev pub shared : ℕ → ℕ → Key
shared a i = Shared (area a) i

-- after so many moves of a log
abbrev pub life_after : ℕ → List Move → FrameLife
life_after n log = unwrap_or (replay_log (take n log)) unstarted

abbrev pub behind_after : ℕ → List Move → Behind
behind_after n log = record nothing_behind { life = life_after n log }

-- the second write to the page that is being written, line 8: a soft fault, and the page is soiled
abbrev pub second_write : Aim
second_write = record {
  place = place 1 16;
  need = touch (private 1 16);
  writes = true;
  start = life_after 14 rewritten_log;
}

-- its soft fault alone
abbrev pub mapped_alone : Behind
mapped_alone = behind_after 15 (take 14 rewritten_log ++ move.Map (record { 0 = 0 }) (place 1 16) ∷ [])

-- the access of the smallest set's last line: its only page goes for the next
abbrev pub next_page : Aim
next_page = record {
  place = place 1 17;
  need = touch (private 1 17);
  writes = true;
  start = life_after 10 smallest_set_log;
}

-- the access of a page that is valid already, in a set of one page
abbrev pub same_page : Aim
same_page = record {
  place = place 1 16;
  need = touch (private 1 16);
  writes = false;
  start = life_after 10 smallest_set_log;
}

-- a file's page, read and mapped in a copy view
abbrev pub copied_log : List Move
copied_log =
    move.At 1 (kind.Machine 6 0 1 4)
    ∷ move.At 2 (kind.Process (pid 1) 0 4)
    ∷ move.At 3 kind.Call
    ∷ move.Add (shared 0 0) (Some (record { 0 = 0 }))
    ∷ move.At 4 (kind.Access (pid 1))
    ∷ move.Read (record { 0 = 0 }) (shared 0 0)
    ∷ move.Got (record { 0 = 0 })
    ∷ move.Map (record { 0 = 0 }) (place 1 16)
    ∷ move.At 5 (kind.Access (pid 1))
    ∷ []

abbrev pub copy_of_page : Aim
copy_of_page = record {
  place = place 1 16;
  need = record { key = shared 0 0; copy = Some (private 1 16) };
  writes = true;
  start = life_after 9 copied_log;
}

-- the copy comes to be, and the page copied from is mapped once more before it
abbrev pub shared_again : List Move
shared_again =
    move.Clear (record { 0 = 1 })
    ∷ move.Add (private 1 16) None
    ∷ move.Give (record { 0 = 1 }) (private 1 16)
    ∷ move.Unmap (place 1 16)
    ∷ move.Map (record { 0 = 0 }) (place 1 16)
    ∷ move.Unmap (place 1 16)
    ∷ move.Map (record { 0 = 1 }) (place 1 16)
    ∷ []

-- a thread waited for a file's page, whose read has failed, and goes on
abbrev pub resumed_log : List Move
resumed_log =
    move.At 1 (kind.Machine 6 0 1 4)
    ∷ move.At 2 (kind.Process (pid 1) 0 4)
    ∷ move.At 3 kind.Call
    ∷ move.Add (shared 0 0) (Some (record { 0 = 0 }))
    ∷ move.At 4 (kind.Thread (pid 1))
    ∷ move.Read (record { 0 = 0 }) (shared 0 0)
    ∷ move.At 5 kind.Io
    ∷ move.Bad (record { 0 = 0 })
    ∷ move.At 6 (kind.Thread (pid 1))
    ∷ []

abbrev pub page_awaited : Aim
page_awaited = record {
  place = place 1 16;
  need = touch (shared 0 0);
  writes = false;
  start = life_after 9 resumed_log;
}

-- a plain access of that page, whose read is in flight for the thread
abbrev pub read_log : List Move
read_log = take 6 resumed_log ++ move.At 5 (kind.Access (pid 1)) ∷ []

abbrev pub page_being_read : Aim
page_being_read = record page_awaited { start = life_after 7 read_log }

-- its read fails; and one that begins then does not
abbrev pub read_again : List Move
read_again =
    move.Bad (record { 0 = 0 })
    ∷ move.Read (record { 0 = 1 }) (shared 0 0)
    ∷ move.Got (record { 0 = 1 })
    ∷ move.Map (record { 0 = 1 }) (place 1 16)
    ∷ []

-- a section of two pages, and one page of a process beside it
abbrev pub section_log : List Move
section_log =
    move.At 1 (kind.Machine 6 1 1 0)
    ∷ move.At 2 (kind.Process (pid 1) 0 1)
    ∷ move.At 3 kind.Call
    ∷ move.Add (shared 0 0) None
    ∷ move.Add (shared 0 1) None
    ∷ move.At 4 kind.Call
    ∷ move.Add (private 1 16) None
    ∷ move.At 5 (kind.Unbind (pid 1))
    ∷ []

-- what is kept of a frame whose page is changed, and of one whose page was written to during its
-- write
abbrev pub changed_record : Record
changed_record = given (private 1 16)

abbrev pub page_written_to : Record
page_written_to = record changed_record { request = request.WriteAgain }

-- all places, and the area of the section with this rank
abbrev pub going : ℕ → Leaving
going rank = record { places = λ p. true; rank = λ area. rank }

abbrev pub behind_page : List Move
behind_page =
    move.Unmap (place 1 16) ∷ move.Drop (private 1 16) ∷ move.Drop (shared 0 0) ∷
    move.Drop (shared 0 1)
    ∷ move.Unmap (place 1 17) ∷ []

abbrev pub before_all : List Move
before_all =
    move.Drop (shared 0 0) ∷ move.Drop (shared 0 1) ∷ move.Unmap (place 1 16) ∷
    move.Drop (private 1 16)
    ∷ move.Unmap (place 1 17) ∷ []

-- of two pages, from this one on
abbrev pub viewing : ℕ → ℕ → RegionOf (Unit {0})
viewing base section = record {
  base = base;
  alloc_prot = 4;
  kind = View (record {
    section = record { 0 = section };
    area = area section;
    first = 0;
    access = Write;
  });
  rows = replicate 2 (record { prot = 4; guard = false; marked = false; own = None });
  watched = None;
}

-- a process with two views of section 0 and a handle to it, and two handles to section 1
abbrev pub with_sections : ProcessOf (Unit {0})
with_sections = record {
  regions = viewing 16 0 ∷ viewing 48 0 ∷ [];
  handles = None ∷ Some 1 ∷ Some 0 ∷ Some 1 ∷ [];
}
