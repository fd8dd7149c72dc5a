-- A joined state with which a run of a machine starts, and what one leaves behind.
-- Profile, "A run".
use Rattle.std.specs.Prelude.{◌≡◌, ◌≤◌, false, [], List}
use Rattle.mm_types.specs.{MachineOf}
use Rattle.mm_world.specs.{Page}
use Rattle.mm_devices.specs.{DeviceOf}
use Rattle.mm_state_calls.specs.{StateOf}
use Rattle.mm_state.specs.{MachineStarts}
use Rattle.mm_run.specs.Scenes.{Outset}
use Rattle.mm_run.specs.Ends.{Left, device_left, left_with}
use Rattle.mm_run.specs.Settings.{AreOpened}

-- Two devices that were opened for this machine: they hold zeros, none of their calls was made or
-- is named, and their counts of faults have not fallen since.
pub record Opened (m : MachineOf) (o : Outset) (paging files : DeviceOf) (slots blocks : List Page)
    : Type 0 where
  pub opened :
      AreOpened m (device_left paging.log slots paging.faults)
      (device_left files.log blocks files.faults)
  pub paging_named : paging.named ≡ []
  pub files_named : files.named ≡ []
  pub paging_later : o.paging ≤ paging.faults
  pub files_later : o.files ≤ files.faults

-- The state that a machine's first line made over such devices, noted after this outset's log.
pub record StartsFrom (m : MachineOf) (o : Outset) (z : StateOf) : Type 0 where
  pub paging : DeviceOf
  pub files : DeviceOf
  pub slots : List Page
  pub blocks : List Page
  pub opened : Opened m o paging files slots blocks
  pub noted : MachineStarts m o.log paging files slots blocks z
  pub unfailed : o.log.failed ≡ false

-- A state with which a run of the machine starts, from some outset.
pub record HasStart (m : MachineOf) (z : StateOf) : Type 0 where
  pub outset : Outset
  pub starts : StartsFrom m outset z

-- What a state leaves: its log of moves and both devices.
abbrev pub left_behind : StateOf → Left
left_behind z =
    left_with z.log.bytes z.log.given z.log.faults
    (device_left z.paging.log z.slots z.paging.faults)
    (device_left z.files.log z.blocks z.files.faults)
