-- Moves of the joined state, one after another; and a search for a frame.
-- Profile, "Which frame moves, and when".
use Rattle.std.specs.Prelude.{◌≡◌, ◌≤◌, ◌<◌, ◌⊎◌, ℕ, Bool, true, false, List, [], map, count_by, Option, Some}
use Rattle.mm_types.specs.{Move, Frame}
use Rattle.mm_move_rules.specs.{is_on, FrameLife, is_short, Grew, AreMoves, spelled_moves, Replays, Walk, Through, walked_all, waits_through, ages_through}
use Rattle.mm_move_rules.specs.{is_wrote_move, is_read_move, SearchMove, Starved}
use Rattle.mm_devices.specs.{Call, AllServed, logged_call, KeepsOthers}
use Rattle.mm_store.specs.{told_through, paging_traffic, file_traffic}
use Rattle.mm_state_calls.specs.Shown.{StateOf, moved_with_call, SomeFault}

-- these moves were made, noted and counted; each device's calls are those that they stand for, and
-- a slot or a block that none of them wrote is as before
pub record DoesMoves (moves : List Move) (s z : StateOf) : Type 0 where
  pub in_range : AreMoves moves
  pub grew : Grew s.log z.log (spelled_moves moves)
  pub replays : Replays moves s.life z.life
  pub ages : z.ages ≡ ages_through moves s.ages
  pub waits : z.waits ≡ waits_through moves s.waits
  pub told : z.told ≡ told_through s.life moves s.told
  pub paging_calls : List Call
  pub paging : AllServed paging_calls s.paging z.paging
  pub paging_are : map logged_call paging_calls ≡ paging_traffic s.life moves
  pub file_calls : List Call
  pub files : AllServed file_calls s.files z.files
  pub files_are : map logged_call file_calls ≡ file_traffic s.life moves
  pub slots_kept : KeepsOthers (paging_traffic s.life moves) s.slots z.slots
  pub blocks_kept : KeepsOthers (file_traffic s.life moves) s.blocks z.blocks

-- where a walk through the moves from here on begins
abbrev pub walk_of : StateOf → Walk
walk_of s = record { life = s.life; ages = s.ages; tried = [] }

-- ---- a search

-- what was in flight earlier in this access is in flight still, or is the pinned frame
abbrev pub IsFlightOf : List ℕ → Option Frame → FrameLife → Type 0
IsFlightOf flight pin l = (f : Frame) → is_on f.0 flight ≡ true → (is_on f.0 l.flight ≡ true) ⊎
    (pin ≡ Some f)

-- A search for a frame, while one frame, if any, is pinned. Its moves are those of a search, in
-- order; at most one write succeeds, and none where it finds no frame: then zeroed, free and
-- standby are empty, each modified frame that can be written was tried, no place but those of the
-- pinned frame is valid, and a device write failed.
pub record Searched (pin : Option Frame) (found : Bool) (s z : StateOf) : Type 0 where
  pub moves : List Move
  pub does : DoesMoves moves s z
  pub each : (flight : List ℕ) → IsFlightOf flight pin s.life →
      Through (SearchMove pin flight) (walk_of s) moves
  pub one : count_by is_wrote_move moves ≤ 1
  pub no_read : count_by is_read_move moves ≡ 0
  pub got : found ≡ true → is_short z.life ≡ false
  pub short : found ≡ false → is_short z.life ≡ true
  pub lost : found ≡ false → count_by is_wrote_move moves ≡ 0
  pub starved : found ≡ false → Starved pin (walked_all (walk_of s) moves)
  pub fails : found ≡ false → 0 < z.told.search_writes.failed
  pub fault : found ≡ false → SomeFault s z
  pub none : found ≡ false → z.told.search_writes.succeeded ≡ s.told.search_writes.succeeded
  pub read : z.told.last_failed_read ≡ s.told.last_failed_read
  pub same : z ≡ moved_with_call s z
