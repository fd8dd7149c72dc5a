-- What a line does to devices, and what it leaves in blocks.
-- Profile, "A run".
use Rattle.std.specs.Prelude.{◌≡◌, ◌<◌, ◌⊎◌, ℕ, ◌+◌, ◌-◌, Bool, true, false, List, ◌++◌, map, Option, Some, None, slice_get}
use Rattle.mm_types.specs.{Answer, Event, View, holds_page, Device}
use Rattle.mm_types.specs.declared.answers.Answer.TheVariants as answer
use Rattle.mm_types.specs.declared.codes.Raise.TheVariants as raise
use Rattle.mm_types.specs.declared.devices.Direction.TheVariants as way
use Rattle.mm_types.specs.declared.events.Event.TheVariants as line
use Rattle.mm_types.specs.declared.views.Kind.TheVariants as kind
use Rattle.mm_world.specs.{Page, RegionOf, ProcessOf, Found, process_of, area_at, shared_page, wait_failed, Tally, flushed_view, flushed_range}
use Rattle.mm_world.specs.World.{World}
use Rattle.mm_world.specs.Report.{Report}
use Rattle.mm_devices.specs.{DeviceOf, Call, AllServed, CallFailed, KeepsOthers, logged_call, NamedCalls}
use Rattle.mm_store.specs.{writes_from, last_write, tallied, no_calls, called, with_named, with_named_paging}
use Rattle.mm_types.specs.declared.devices.Device.TheVariants as device_of

-- the reads and writes that a line asked of a device: those not named stand in its log, where that
-- is told, and the report after the line counts them all
pub record Asked (old new : DeviceOf) (reads writes : Report → Tally) (after : Report) :
    Type 0 where
  pub calls : List Call
  pub served : AllServed calls old new
  pub read : reads after ≡ tallied way.Read calls no_calls
  pub wrote : writes after ≡ tallied way.Write calls no_calls

abbrev pub AskedFiles : DeviceOf → DeviceOf → Report → Type 0
AskedFiles old new after = Asked old new (λ r. r.file_reads) (λ r. r.file_writes) after

abbrev pub AskedPaging : DeviceOf → DeviceOf → Report → Type 0
AskedPaging old new after = Asked old new (λ r. r.paging_reads) (λ r. r.paging_writes) after

-- a line in which the paging device grows, which is no read or write
abbrev pub is_grow : Event → Bool
is_grow (line.Grow n) = true
is_grow _ = false

-- a line that names device calls to come
abbrev pub is_fail : Event → Bool
is_fail (line.Fail device direction k n) = true
is_fail _ = false

-- such a line, answered `ok`, names them on its device, and does nothing else to devices
abbrev pub NamedOn : Bool → Device → NamedCalls → DeviceOf → DeviceOf → DeviceOf → DeviceOf → Type 0
NamedOn unpaged device_of.Paging calls paging paging' files files' =
    (paging' ≡ with_named_paging unpaged paging calls) × (files' ≡ files)
NamedOn unpaged device_of.File calls paging paging' files files' = (paging' ≡ paging) ×
    (files' ≡ with_named files calls)

abbrev pub Named : Bool → Event → Answer → DeviceOf → DeviceOf → DeviceOf → DeviceOf → Type 0
Named unpaged (line.Fail device direction k n) answer.Ok paging paging' files files' =
    NamedOn unpaged device (record {
      direction = direction;
      passes = k - 1;
      fails = n;
    }) paging paging' files files'
Named unpaged (line.Fail device direction k n) _ paging paging' files files' = (paging' ≡ paging) ×
    (files' ≡ files)
Named unpaged _ _ paging paging' files files' = Unit {0}

-- the blocks of a new file are written in rising order from `first` on, all of them, or up to the
-- first write that fails, which is of one of them
pub record WritesBlocks (first pages : ℕ) (ok : Bool) (old new : DeviceOf)
    (blocks blocks' : List Page) : Type 0 where
  pub whole : ℕ
  pub calls : List Call
  pub served : AllServed calls old new
  pub are : map logged_call calls ≡ writes_from first whole ++ last_write ok (first + whole)
  pub all : ok ≡ true → whole ≡ pages
  pub some : ok ≡ false → whole < pages
  -- each block that none of these writes is of is as before
  pub kept : KeepsOthers (map logged_call calls) blocks blocks'

-- of a file that is refused none is written
abbrev pub FileWrites : ℕ → ℕ → Answer → DeviceOf → DeviceOf → List Page → List Page → Type 0
FileWrites first pages answer.Ok old new blocks blocks' =
    WritesBlocks first pages true old new blocks blocks'
FileWrites first pages answer.Fault old new blocks blocks' =
    WritesBlocks first pages false old new blocks blocks'
FileWrites first pages _ old new blocks blocks' = (new ≡ old) × (blocks' ≡ blocks)

-- What is asked of devices beside the moves: a `file` line writes the blocks of its file, the
-- lowest that no file used, and does not call the paging device; a `grow` line asks the paging
-- device to grow, which stands in no log, and does not call the file device. Where it grew, it is
-- as before but for its slots; where it is `full`, it is not asked.
abbrev pub AskedBeside : ℕ → Event → Answer → DeviceOf → DeviceOf → DeviceOf → DeviceOf →
    List Page → List Page → Type 0
AskedBeside used (line.File name pages byte) a paging paging' files files' blocks blocks' =
    (paging' ≡ paging) × FileWrites used pages a files files' blocks blocks'
AskedBeside used (line.Grow n) (answer.Limit limit) paging paging' files files' blocks blocks' =
    (paging' ≡ paging) × (files' ≡ files)
AskedBeside used (line.Grow n) answer.Full paging paging' files files' blocks blocks' =
    (paging' ≡ paging) × (files' ≡ files)
AskedBeside used (line.Grow n) a paging paging' files files' blocks blocks' =
    (paging' ≡ called paging paging') × (files' ≡ files)
AskedBeside used _ a paging paging' files files' blocks blocks' = Unit {0}

-- the thread whose access a line resumes
abbrev pub resumed_thread : Event → Option ℕ
resumed_thread (line.Resume tid) = Some tid.0
resumed_thread _ = None

abbrev pub HasFailed : Option ℕ → Report → Type 0
HasFailed None before = ⊥
HasFailed (Some tid) before = wait_failed (before.wait tid) ≡ true

-- the read that a thread waited for has failed before its `resume`
abbrev pub FailedBefore : Event → Report → Type 0
FailedBefore e before = HasFailed (resumed_thread e) before

-- an answer that comes only where a device failed
abbrev pub IsFailure : Answer → Type 0
IsFailure answer.Fault = Unit {0}
IsFailure (answer.Raised raise.InPageError) = Unit {0}
IsFailure _ = ⊥

-- a call of one of both devices failed
abbrev pub OneFailed : DeviceOf → DeviceOf → DeviceOf → DeviceOf → Type 0
OneFailed paging paging' files files' = CallFailed paging paging' ⊎ CallFailed files files'

-- after a `flush`, the blocks of the shared pages of the range hold their bytes
abbrev pub FlushHolds : World → List Page → ℕ → ℕ → ℕ → Type 0
FlushHolds w blocks pid addr size =
    (p : ProcessOf Page) (r : Found (RegionOf Page)) (v : View) (page first : ℕ) →
    process_of w pid ≡ Some p → flushed_view p.regions addr size ≡ Some r →
    r.thing.kind ≡ kind.View v → holds_page (flushed_range r.thing addr size) page ≡ true →
    (area_at w v.area.0).file_block ≡ Some first →
    slice_get blocks (first + (v.first + (page - r.thing.base))) ≡
    shared_page w v.area.0 (v.first + (page - r.thing.base))

abbrev pub FlushServed : World → List Page → Event → Answer → Type 0
FlushServed w blocks (line.Flush pid addr size) answer.Ok = FlushHolds w blocks pid.0 addr size
FlushServed w blocks _ _ = Unit {0}
