-- Which counts of faults a status is to blame on.
-- Profile, "A run".
use Rattle.std.specs.Prelude.{◌≡◌, ◌⊎◌, ◌≤◌, ℕ}
use Rattle.mm_types.specs.{Rose}
use Rattle.mm_devices.specs.{NoneLogged}
use Rattle.mm_run.specs.Ends.{DeviceLeft}
use Rattle.mm_run.specs.Story.{FaultCounts}
use Rattle.mm_run.specs.Script.{IsFault}

-- A device could not be opened: its count of faults rose, and no read or write of it is told.
pub record IsUnopened (d d' : DeviceLeft) : Type 0 where
  pub rose : Rose d.faults d'.faults
  pub uncalled : d'.log ≡ d.log

-- One of both devices, the paging device first, could not be opened. The other one was not called,
-- or has been opened and no more.
abbrev pub OpenFailed : DeviceLeft → DeviceLeft → DeviceLeft → DeviceLeft → Type 0
OpenFailed paging paging' files files' =
    (IsUnopened paging paging' × (files' ≡ files))
    ⊎ (NoneLogged paging'.log × IsUnopened files files')

-- Status 4 comes only where the source failed, 5 where the sink of answers did, 6 where that of
-- moves did, 7 where a device could not be opened, and no count of another of these three rose; but
-- with status 5 that of moves may have, where before a line ran out of memory whose `at` was not
-- written. So once a read has failed no sink fails, as none is called: what was to be written
-- stands by then, with all that was given on (`TellsAll`). A source may fail whenever it is asked:
-- so whenever it is asked nothing is held back. Where memory was refused, with status 1, no
-- count of the source and of the sink of answers is another than before, and that of moves did not
-- fall: it may have risen, where the `at` of the line that ran out of memory was not written. With
-- the other statuses no count of these three is another.
pub record IsAccounted (status : ℕ) (opening : Type 0) (c d : FaultCounts) : Type 0 where
  pub read_fault : status ≡ 4 → Rose c.source d.source
  pub out_fault : status ≡ 5 → Rose c.out d.out
  pub moves_fault : status ≡ 6 → Rose c.moves d.moves
  pub setup_fault : status ≡ 7 → opening
  pub read_alone : status ≡ 4 → d ≡ record c { source = d.source }
  pub out_alone : status ≡ 5 → d.source ≡ c.source
  pub moves_alone : status ≡ 6 → d ≡ record c { moves = d.moves }
  pub setup_alone : status ≡ 7 → d ≡ c
  pub no_memory : status ≡ 1 → (c.moves ≤ d.moves) × (d ≡ record c { moves = d.moves })
  pub no_fault : (IsFault status → ⊥) → d ≡ c
