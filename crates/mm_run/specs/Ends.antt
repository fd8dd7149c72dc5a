-- How the end of a run stands to its last answered line, and what is left then on devices and in
-- the log of moves.
-- Profile, "A run".
use Rattle.std.specs.Prelude.{◌≡◌, ◌⊎◌, ◌≤◌, ℕ, true, List, Option}
use Rattle.mm_types.specs.{Text, Event}
use Rattle.mm_io.specs.{with_line_feed}
use Rattle.mm_move_rules.specs.{Log, IsFrontOf}
use Rattle.mm_world.specs.{Page, filled}
use Rattle.mm_devices.specs.{DeviceCall, DeviceOf}
use Rattle.mm_dispatch.specs.{takes_memory}
use Rattle.mm_script.specs.{is_machine}
use Rattle.mm_run.specs.declared.endings.Ending.{Ending}
use Rattle.mm_run.specs.declared.endings.Ending.TheVariants as ending
use Rattle.mm_run.specs.Scenes.{Stage, NotBegun, Running, Follows}
use Rattle.mm_run.specs.Steps.{BreaksLine}
use Rattle.mm_run.specs.Answered.{DecidedLine, IsMuted, LineSays}

-- ---- between the last answer and the end

-- The line after these was decided and not answered; its line feed is the last byte of `front`.
pub record Mutes (n : ℕ) (front : Text) (last end : Stage) : Type 0 where
  pub line : DecidedLine
  pub whole : front ≡ with_line_feed line.text
  pub muted : IsMuted n last line
  pub after : end ≡ line.after

-- A line ran out of memory.
abbrev pub BreaksAt : Event → Stage → Stage → Type 0
BreaksAt e (NotBegun o) end = ⊥
BreaksAt e (Running s) (NotBegun o) = ⊥
BreaksAt e (Running s) (Running z) = BreaksLine s e z

pub record BreaksOff (e : Event) (last end : Stage) : Type 0 where
  pub before : Stage
  pub follows : Follows last before
  pub breaks : BreaksAt e before end

-- The line may take memory in the world that there is.
abbrev pub TakesMemory : Stage → Event → Type 0
TakesMemory (NotBegun o) event = ⊥
TakesMemory (Running s) event = takes_memory filled s.world event ≡ true

-- The line after these ran out of memory: `machine`, whose machine was not made then, or a line
-- that may take memory. Its feed is the last byte of `front`.
pub record WantsMemory (n : ℕ) (front : Text) (last end : Stage) : Type 0 where
  pub line : Text
  pub event : Event
  pub whole : front ≡ with_line_feed line
  pub says : LineSays n line event
  pub broken : ((is_machine event ≡ true) × Follows last end)
      ⊎ (TakesMemory last event × BreaksOff event last end)

-- Nothing happened, but that a line ran out of memory, or could not note all its moves.
abbrev pub ClosesRun : Ending → ℕ → Text → Stage → Stage → Type 0
ClosesRun ending.NoMemory n front last end = WantsMemory n front last end
ClosesRun ending.MovesFault n front last end = Follows last end ⊎ Mutes n front last end
ClosesRun _ n front last end = Follows last end

-- ---- what is left

-- A device as it is left: the log of its calls, where told, what it holds, and its count of faults.
pub record DeviceLeft : Type 0 where
  pub log : Option (List DeviceCall)
  pub blocks : List Page
  pub faults : ℕ

abbrev pub device_left : Option (List DeviceCall) → List Page → ℕ → DeviceLeft
device_left log blocks faults = record { log = log; blocks = blocks; faults = faults }

-- Its log, where told, what it holds, and its count of faults are those of the stage.
pub record IsLeft (d : DeviceOf) (blocks : List Page) (x : DeviceLeft) : Type 0 where
  pub log_is : d.log ≡ x.log
  pub blocks_are : blocks ≡ x.blocks
  pub faults_are : d.faults ≡ x.faults

-- What a run leaves: the bytes that the sink of moves took and those that it gave on, where told,
-- its count of faults, and both devices.
pub record Left : Type 0 where
  pub moves : Option Text
  pub gave : Option Text
  pub moves_faults : ℕ
  pub paging : DeviceLeft
  pub files : DeviceLeft

abbrev pub left_with : Option Text → Option Text → ℕ → DeviceLeft → DeviceLeft → Left
left_with moves gave faults paging files = record {
  moves = moves;
  gave = gave;
  moves_faults = faults;
  paging = paging;
  files = files;
}

-- The log of moves as it is left: its bytes, where told, are those of the stage; as it is flushed
-- at the end more of them may be given on, and its count of faults may rise.
pub record IsLogLeft (log : Log) (x : Left) : Type 0 where
  pub bytes_are : log.bytes ≡ x.moves
  pub gave_more : IsFrontOf log.given x.gave
  pub faults_are : log.faults ≤ x.moves_faults

-- Before the first line was decided nothing was noted; devices may have been opened.
abbrev pub StageLeaves : Stage → Left → Type 0
StageLeaves (NotBegun o) x = IsLogLeft o.log x
StageLeaves (Running s) x =
    IsLogLeft s.behind.log x
    × IsLeft s.paging s.behind.slots x.paging
    × IsLeft s.files s.blocks x.files
