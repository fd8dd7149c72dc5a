-- What a store of pages shows beside the bytes of its keys.
use Rattle.std.specs.Prelude.{ℕ, ◌+◌, ◌%◌, Bool, ◌&&◌, ◌==◌, nat_lt, if◌then◌else◌, List, Option, Some, None}
use Rattle.mm_types.specs.{Key, Pid, Place, LineKind, Range, holds_page, MachineOf}
use Rattle.mm_types.specs.declared.numbers.Key.TheVariants as key
use Rattle.mm_types.specs.declared.moves.LineKind.TheVariants as kind
use Rattle.mm_world.specs.{Page, filled, Need}
use Rattle.mm_world.specs.Report.{Report}
use Rattle.mm_devices.specs.{DeviceOf}
use Rattle.mm_move_rules.specs.{changed, same_place}

-- the place and the need for which no device is called, after a thread's access was found ready
pub record Ready : Type 0 where
  pub place : Place
  pub need : Need

pub record StoreOf : Type 0 where
  -- the machine, with the slots that there are now
  pub machine : MachineOf
  -- by pid, whether the process is open
  pub is_open : ℕ → Bool
  -- of each open area, how many pages it was opened for
  pub areas : ℕ → Option ℕ
  -- which places belong to a region
  pub bound : Place → Bool
  -- the key that was last used at a bound place
  pub names : Place → Option Key
  -- the live keys that stand in frames or in the paging file, and how many they are
  pub paging : Key → Bool
  pub paging_keys : ℕ
  -- how many of these there can be
  pub room : ℕ
  -- the block of each live file key
  pub block_of : Key → Option ℕ
  -- how many blocks files use, from block 0 on
  pub blocks_used : ℕ
  -- what the file device holds, block by block
  pub file_blocks : List Page
  -- the number and the kind of the line that began last
  pub line : ℕ
  pub kind : LineKind
  -- the pid of the last line of kind `process`, 0 before it
  pub last_pid : ℕ
  pub ready : Option Ready
  pub report : Report
  pub paging_device : DeviceOf
  pub file_device : DeviceOf

-- ---- functions, changed

-- the page of the place is one of these pages of the process
abbrev pub is_place_in : Pid → Range → Place → Bool
is_place_in pid range place = (place.pid.0 == pid.0) && holds_page range place.vpn.0

-- a function of places, changed at some pages of a process
abbrev pub changed_in : {V : Type 0} → Pid → Range → (Place → V) → V → Place → V
changed_in pid range f v place = if is_place_in pid range place then v else f place

-- the place whose page the key is its own, and the key that is a place's own
abbrev pub own_key : Place → Key
own_key place = key.Private place.pid place.vpn

-- a removed key is named at its own place no more
abbrev pub unnamed : Key → (Place → Option Key) → Place → Option Key
unnamed (key.Private pid vpn) names = changed same_place names (record {
  pid = pid;
  vpn = vpn;
}) None
unnamed (key.Shared area index) names = names

-- ---- files

-- the pages of a new file: page i holds the byte `byte + i` throughout
abbrev pub with_file : ℕ → ℕ → ℕ → (Key → Option Page) → Key → Option Page
with_file area pages byte contents (key.Private pid vpn) = contents (key.Private pid vpn)
with_file area pages byte contents (key.Shared a i) =
    if (a.0 == area) && nat_lt i pages then Some (filled ((byte + i) % 256)) else
    contents (key.Shared a i)

-- their blocks, from the first on
abbrev pub with_blocks : ℕ → ℕ → ℕ → (Key → Option ℕ) → Key → Option ℕ
with_blocks area pages first block_of (key.Private pid vpn) = block_of (key.Private pid vpn)
with_blocks area pages first block_of (key.Shared a i) =
    if (a.0 == area) && nat_lt i pages then Some (first + i) else block_of (key.Shared a i)

-- ---- a new store

abbrev pub kind_of_machine : MachineOf → LineKind
kind_of_machine m = kind.Machine m.frames m.slots m.depth m.blocks
