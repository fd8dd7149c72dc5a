-- What a machine's run asks and promises from before its first line on.
-- Profile, "A run".
use Rattle.std.specs.Prelude.{◌≡◌, ℕ, ◌+◌, ◌<◌, ◌≤◌, length, take, replicate, Ok}
use Rattle.mm_types.specs.{MachineOf, Text}
use Rattle.mm_types.specs.declared.events.Event.TheVariants as event
use Rattle.mm_io.specs.{HasLine}
use Rattle.mm_script.specs.{IsLine as IsLineFor}
use Rattle.mm_devices.specs.{NoneLogged, empty_block}
use Rattle.mm_run.specs.declared.endings.Ending.{Ending}
use Rattle.mm_run.specs.Reading.{reading_of}
use Rattle.mm_run.specs.Ends.{DeviceLeft, Left}
use Rattle.mm_run.specs.Faults.{OpenFailed}
use Rattle.mm_run.specs.Ran.{begun_at}
use Rattle.mm_run.specs.Story.{Outside, FaultCounts, Comes, IsBlamed, outside, stand, fault_counts_with}
use Rattle.mm_run.specs.Moments.{Input, Output}

-- All that a run may change: its source, the sink of answers, the answers that are kept, the sink
-- of moves and both devices.
pub record Setting : Type 0 where
  pub input : Input
  pub output : Output
  pub kept : Text
  pub left : Left

abbrev pub outside_in : Setting → Outside
outside_in s = outside s.input.left s.output.took s.kept

abbrev pub counts_in : Setting → FaultCounts
counts_in s = fault_counts_with s.input.faults s.output.faults s.left.moves_faults

-- a device could not be opened
abbrev pub open_failed_in : Left → Left → Type 0
open_failed_in a b = OpenFailed a.paging b.paging a.files b.files

-- ---- what is asked

-- The line in front, with fewer than 4,096 bytes behind it, is the first one, and makes this
-- machine.
pub record HoldsMachine (held : Text) (len : ℕ) (m : MachineOf) : Type 0 where
  pub line : HasLine held len
  pub behind : length held < len + 1 + 4096
  pub says : reading_of 0 (take len held) ≡ Ok (event.Machine m)
  pub grammar : IsLineFor (take len held) (event.Machine m)

-- Both devices were opened for this machine: they hold zeros, and none was called.
pub record AreOpened (m : MachineOf) (paging files : DeviceLeft) : Type 0 where
  pub slots : paging.blocks ≡ replicate m.slots empty_block
  pub blocks : files.blocks ≡ replicate m.blocks empty_block
  pub paging_logged : NoneLogged paging.log
  pub files_logged : NoneLogged files.log

-- ---- what is promised

-- A run came to its end from before its first line, with these bytes held: which lines were
-- decided, what is left, and which fault is to blame. Only the last read may have taken no byte.
pub record ComesTo (held : Text) (a b : Setting) (e : Ending) : Type 0 where
  pub came : Comes (outside_in a) (outside_in b) (stand held 0 (begun_at a.left)) e b.left
  pub faults : IsBlamed e (open_failed_in a.left b.left) (counts_in a) (counts_in b)
  pub idle : b.input.idle ≤ a.input.idle + b.input.last_idle
