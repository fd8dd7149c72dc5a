-- What one line does to the tables, to the bytes and to the store.
-- Profile, "A run".
use Rattle.std.specs.Prelude.{◌≡◌, ◌≤◌, ◌⊎◌, ℕ, Bool, true, false, Option}
use Rattle.mm_types.specs.{Answer, Event, LineKind, Key}
use Rattle.mm_types.specs.declared.moves.LineKind.TheVariants as kind_of
use Rattle.mm_world.specs.{Page, Tables, world_with}
use Rattle.mm_store.specs.{StoreOf, begun}
use Rattle.mm_object_tables.specs.{FitsTables, key_bytes, MadeAtMost}
use Rattle.mm_dispatch.specs.Serving.{AskedFiles, AskedPaging, IsFailure, OneFailed, FlushServed, Named, is_grow, is_fail, FailedBefore}
use Rattle.mm_dispatch.specs.Stepping.{Stepped}

-- a line that names no numbers of its own in its kind
abbrev pub is_plain_kind : LineKind → Bool
is_plain_kind (kind_of.Machine frames slots depth blocks) = false
is_plain_kind (kind_of.Process pid min max) = false
is_plain_kind (kind_of.Grow n) = false
is_plain_kind _ = true

-- a store fits the tables, and each line before made at most one of each thing that is numbered
pub record KeepsTables (t : Tables) (contents : Key → Option Page) (s : StoreOf) : Type 0 where
  pub fits : FitsTables t contents s
  pub few : MadeAtMost s.line t

-- a line has begun, and no device was called yet
pub record LineBegins (number : ℕ) (s m : StoreOf) : Type 0 where
  pub line_is : m.line ≡ number
  pub report_is : m.report ≡ begun s.report
  pub paging : m.paging_device ≡ s.paging_device
  pub files : m.file_device ≡ s.file_device
  pub blocks : m.file_blocks ≡ s.file_blocks

-- what a line did to both devices
pub record Devices (never_fails : Bool) (e : Event) (s z : StoreOf) (a : Answer) : Type 0 where
  pub asked_files : is_fail e ≡ false → AskedFiles s.file_device z.file_device z.report
  pub asked_paging : is_fail e ≡ false → is_grow e ≡ false →
      AskedPaging s.paging_device z.paging_device z.report
  pub named : Named never_fails e a s.paging_device z.paging_device s.file_device z.file_device
  pub failed : IsFailure a → FailedBefore e s.report ⊎
      OneFailed s.paging_device z.paging_device s.file_device z.file_device
  pub paging_later : s.paging_device.faults ≤ z.paging_device.faults
  pub files_later : s.file_device.faults ≤ z.file_device.faults

-- a line was decided, from tables, bytes and store to those that there are now: as its step says
pub record Decided (never_fails : Bool) (e : Event) (number : ℕ) (t : Tables)
    (old : Key → Option Page) (s : StoreOf) (a : Answer) (after : Tables) (new : Key → Option Page)
    (z : StoreOf) : Type 0 where
  pub stepped : Stepped never_fails (world_with t (key_bytes old)) e s.report z.report a
      (world_with after (key_bytes new))
  pub devices : Devices never_fails e s z a
  pub flushed : FlushServed (world_with after (key_bytes new)) z.file_blocks e a
  pub keeps : KeepsTables after new z
  pub line_is : z.line ≡ number

-- a line ran out of memory: the world and the devices are as before
pub record Idle (t : Tables) (old : Key → Option Page) (s : StoreOf) (after : Tables)
    (new : Key → Option Page) (z : StoreOf) : Type 0 where
  pub tables : after ≡ t
  pub contents : new ≡ old
  pub paging : z.paging_device ≡ s.paging_device
  pub files : z.file_device ≡ s.file_device
  pub blocks : z.file_blocks ≡ s.file_blocks
