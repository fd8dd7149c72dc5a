-- What the making of a file asks and promises.
use Rattle.std.specs.Prelude.{◌≡◌, ◌≤◌, ◌<◌, ℕ, ◌+◌, length, false, None, Result, IsErrOf, OnOk, OnErr}
use Rattle.mm_types.specs.{MakeFault, Text}
use Rattle.mm_types.specs.declared.faults.MakeFault.TheVariants as make_fault
use Rattle.mm_devices.specs.{CallFailed}
use Rattle.mm_world.specs.{Tables, blank, new_file, file_named}
use Rattle.mm_store.specs.{Ghosts as PageStoreGhosts, Turns, Makes, NotesIn, FileMade, Served, with_file}
use Rattle.mm_object_tables.specs.Fits.{FitsTables, beside_file}

-- no file has the name, and there are blocks for its pages
pub record IsNewFile (name : Text) (pages : ℕ) (t : Tables) : Type 0 where
  pub some : 1 ≤ pages
  pub unnamed : file_named t name ≡ None
  pub room : t.blocks_used + pages ≤ t.machine.blocks

module _ {G : Type 0} (p : PageStoreGhosts G) where
  -- tables and bytes with the file, or as before
  pub record MakesFile {T : Type 0} (name : Text) (pages byte : ℕ) (result : Result T MakeFault)
      (old new : Tables) (g h : G) : Type 0 where
    pub ok : OnOk result (new ≡ (new_file blank old name pages byte).world)
    pub err : OnErr result (new ≡ old)
    pub made : OnOk result
        (p.contents h ≡ with_file (length old.areas) pages byte (p.contents g))
    pub kept : OnErr result (p.contents h ≡ p.contents g)

  -- the store that fits them
  pub record StoresFile {T : Type 0} (result : Result T MakeFault) (new : Tables) (g h : G) :
      Type 0 where
    pub fits : FitsTables new (p.contents h) (p.store h)
    pub beside : p.store h ≡ beside_file (p.store g) (p.store h)
    pub memory : IsErrOf result make_fault.Memory → p.store h ≡ p.store g
    pub served : Served (p.store g) (p.store h)

  -- that there is none because of a write is the device's failure, and told
  pub record BlamesDevice {T : Type 0} (result : Result T MakeFault) (g h : G) : Type 0 where
    pub quiet : OnOk result
        ((p.store h).report.file_writes.failed ≡ (p.store g).report.file_writes.failed)
    pub failed : IsErrOf result make_fault.Write → 0 < (p.store h).report.file_writes.failed
    pub blamed : IsErrOf result make_fault.Write →
        CallFailed (p.store g).file_device (p.store h).file_device

  -- a store that pages notes moves, and writes the file's blocks from the first on
  pub record NotesFile {T : Type 0} (first pages : ℕ) (result : Result T MakeFault) (g h : G) :
      Type 0 where
    pub notes : NotesIn p.unpaged (Turns Makes) (p.behind g) (p.behind h)
    pub written : p.unpaged ≡ false → FileMade first pages result (p.store g) (p.store h)
    pub loans : p.loans h ≡ p.loans g
