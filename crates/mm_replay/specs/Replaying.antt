-- The state of a replay, as the running check has it.
-- Profile, "Logs of moves".
use Rattle.std.specs.Prelude.{ℕ, Bool, false, List, slice_index_or}
use Rattle.mm_move_rules.specs.{FrameLife}
use Rattle.mm_replay.specs.declared.states.State.{State}
use Rattle.mm_replay.specs.Holdings.{stands_in, paging_in, frames_in}

-- the numbers that are in the list
abbrev pub flagged : List Bool → ℕ → Bool
flagged flags n = slice_index_or flags n false

abbrev pub life : State → FrameLife
life c = record {
  machine = record { frames = c.frames; slots = c.slots; depth = c.depth; blocks = c.blocks };
  line = c.line;
  kind = c.kind;
  sets = c.sets.items;
  frames = c.table;
  free_slots = c.free_slots;
  stands = stands_in c.keys;
  paging = paging_in c.keys;
  paging_keys = c.paging_keys;
  added = flagged c.added.items;
  valid = frames_in c.places;
  flight = c.flight.requests;
}
