-- How a store's report and its devices change in a call.
use Rattle.std.specs.Prelude.{◌≡◌, ◌⊎◌, ◌<◌, Bool, true, false, ◌++◌, List, [], ◌∷◌, None, Result, IsErrOf, OnOk}
use Rattle.mm_devices.specs.{NamedCalls, DeviceOf, Call, AllServed, CallFailed}
use Rattle.mm_types.specs.declared.devices.Direction.TheVariants as way
use Rattle.mm_types.specs.{PageFault}
use Rattle.mm_types.specs.declared.faults.PageFault.TheVariants as fault
use Rattle.mm_world.specs.{Tally, is_short, Need, access_fails, read_failed, search_failed, still_needs_frame}
use Rattle.mm_world.specs.Report.{Report}
use Rattle.mm_store.specs.Tallies.{tallied}
use Rattle.mm_store.specs.Store.{StoreOf}

abbrev pub no_calls : Tally
no_calls = record { succeeded = 0; failed = 0 }

-- a line begins: none of its device calls was made
abbrev pub begun : Report → Report
begun r =
    record r {
      paging_reads = no_calls;
      paging_writes = no_calls;
      file_reads = no_calls;
      file_writes = no_calls;
      last_failed_read = None;
      search_writes = no_calls;
      extended = None;
    }

-- no device call of the line was made yet
pub record IsBegun (r : Report) : Type 0 where
  pub no_failed_read : r.last_failed_read ≡ None
  pub no_failed_write : r.search_writes ≡ no_calls

-- pages came to be, went, or moved between lists, and no device was called
abbrev pub rearranged : Report → Report → Report
rearranged old new = record old { counts = new.counts; whereabouts = new.whereabouts }

-- a page at hand was used: a slot that held an older state of it may be free again
abbrev pub eased : Report → Report → Report
eased old new = record old { counts = record (old.counts) { free_slots = new.counts.free_slots } }

-- the paging device was asked to grow, and failed
abbrev pub called : DeviceOf → DeviceOf → DeviceOf
called old new = record old { faults = new.faults }

-- of the store, the device with these calls named to fail too; an unpaged store keeps no paging
-- device
abbrev pub with_named : DeviceOf → NamedCalls → DeviceOf
with_named d calls = record d { named = d.named ++ calls ∷ [] }

abbrev pub with_named_paging : Bool → DeviceOf → NamedCalls → DeviceOf
with_named_paging true d calls = d
with_named_paging false d calls = with_named d calls

-- devices were called for an access: all but the report, the devices and what is ready stays. A
-- read that was in flight may have ended, so threads may wait no longer
abbrev pub fetched : StoreOf → StoreOf → StoreOf
fetched old new =
    record old {
      file_blocks = new.file_blocks;
      ready = new.ready;
      report = record (new.report) { extended = old.report.extended };
      paging_device = new.paging_device;
      file_device = new.file_device;
    }

-- pages were looked for, and no device was called; what threads wait for, what is ready and what is
-- named is told apart
abbrev pub started : StoreOf → StoreOf → StoreOf
started old new =
    record old {
      names = new.names;
      ready = new.ready;
      report = record (rearranged old.report new.report) { wait = new.report.wait };
    }

-- a request was ended: a device was called
abbrev pub completed : StoreOf → StoreOf → StoreOf
completed old new =
    record old {
      file_blocks = new.file_blocks;
      report = record (new.report) { extended = old.report.extended };
      paging_device = new.paging_device;
      file_device = new.file_device;
    }

-- the file device was called in writing
abbrev pub wrote : StoreOf → StoreOf → StoreOf
wrote old new =
    record old {
      file_blocks = new.file_blocks;
      report = record (rearranged old.report new.report) {
        file_writes = new.report.file_writes;
        search_writes = new.report.search_writes;
      };
      file_device = new.file_device;
    }

-- the calls that were made of both devices: each stands in its device's log, or was named, and the
-- report counts it
pub record Served (old new : StoreOf) : Type 0 where
  pub paging_calls : List Call
  pub file_calls : List Call
  pub paging : AllServed paging_calls old.paging_device new.paging_device
  pub files : AllServed file_calls old.file_device new.file_device
  pub paging_reads : new.report.paging_reads ≡ tallied way.Read paging_calls old.report.paging_reads
  pub paging_writes : new.report.paging_writes ≡
      tallied way.Write paging_calls old.report.paging_writes
  pub file_reads : new.report.file_reads ≡ tallied way.Read file_calls old.report.file_reads
  pub file_writes : new.report.file_writes ≡ tallied way.Write file_calls old.report.file_writes

-- a call of one of both devices failed
abbrev pub SomeFailed : StoreOf → StoreOf → Type 0
SomeFailed old new = CallFailed old.paging_device new.paging_device ⊎
    CallFailed old.file_device new.file_device

-- why an access failed, whatever the line did before: a read of the very key failed; or a write of
-- its search did, and no frame is to be had
pub record HasCauses {T : Type 0} (need : Need) (after : Report) (result : Result T PageFault) :
    Type 0 where
  pub read : IsErrOf result fault.Read → read_failed need after ≡ true
  pub no_frame : IsErrOf result fault.NoFrame → (0 < after.search_writes.failed) ×
      (still_needs_frame need after ≡ true) × (is_short after ≡ true)

-- how an access that is a line's first call of devices ends: it is refused exactly where the
-- definition of worlds says that it fails, `Read` for a read of the very key that failed, else
-- `NoFrame` for a search that found none
pub record Ends {T : Type 0} (need : Need) (after : Report) (result : Result T PageFault) :
    Type 0 where
  pub ok : OnOk result (access_fails need after ≡ false)
  pub had : OnOk result (still_needs_frame need after ≡ false)
  pub read : IsErrOf result fault.Read → read_failed need after ≡ true
  pub no_frame : IsErrOf result fault.NoFrame → (read_failed need after ≡ false) ×
      (search_failed need after ≡ true)
