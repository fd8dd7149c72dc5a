-- What the calls of a store that ask its devices promise: an access, a copy, the start of an
-- access, blocks that are written, a request that is ended, a paging file that grows.
use Rattle.std.specs.Prelude.{◌≡◌, ◌≢◌, ◌≤◌, ◌<◌, ◌+◌, ◌%◌, ◌^◌, ◌==◌, ◌⊎◌, ℕ, Bool, true, false, Option, None, Some, Result, IsOk, IsErrOf, OnOk, OnErr, length, slice_get}
use Rattle.mm_types.specs.{Key, Place, PageFault, GrowFault, MakeFault, Rose, Why}
use Rattle.mm_types.specs.declared.faults.GrowFault.TheVariants as grow_fault
use Rattle.mm_types.specs.declared.faults.MakeFault.TheVariants as make_fault
use Rattle.mm_types.specs.declared.moves.LineKind.TheVariants as kind
use Rattle.mm_types.specs.declared.answers.Why.TheVariants as why_of
use Rattle.mm_devices.specs.{CallFailed}
use Rattle.mm_world.specs.{Page, Need, filled, with_slots, same_key, is_failed_extension, pending, BeingRead, failed_calls}
use Rattle.mm_move_rules.specs.{changed, same_place}
use Rattle.mm_store.specs.declared.outcomes.Start.{Start}
use Rattle.mm_store.specs.declared.outcomes.Start.TheVariants as start
use Rattle.mm_store.specs.declared.outcomes.Done.{Done}
use Rattle.mm_store.specs.declared.outcomes.Done.TheVariants as done
use Rattle.mm_store.specs.Store.{StoreOf, with_file, with_blocks}
use Rattle.mm_store.specs.Behind.{Behind}
use Rattle.mm_store.specs.Reports.{begun, eased, called, fetched, wrote, started, completed, IsBegun, Served, SomeFailed, HasCauses, Ends}
use Rattle.mm_store.specs.Conditions.{IsAt, MayAccess, IsReady, touch, copying, waits_at_once, wait_after}
use Rattle.mm_store.specs.Passing.{PassesIn}
use Rattle.mm_store.specs.Accesses.{Touches, Copies}

-- `sure` is the store's `unpaged`: no access to it ever fails or waits

-- ---- accesses

-- the key can be used at the place, in this line
pub record UsableAt (contents : Key → Option Page) (s : StoreOf) (place : Place) (k : Key) (need : Need) :
    Type 0 where
  pub at : IsAt contents s place k
  pub kind : MayAccess s place need

-- what the devices did for an access, and how it ended
pub record AccessAnswered (sure : Bool) (place : Place) (need : Need) (s z : StoreOf)
    (result : Result (Unit {0}) PageFault) : Type 0 where
  pub served : Served s z
  pub stored : length z.file_blocks ≡ length s.file_blocks
  pub fault : IsBegun s.report → Ends need z.report result
  pub causes : HasCauses need z.report result
  pub blamed : OnErr result (SomeFailed s z)
  pub was_ready : IsReady s place need → IsOk result
  pub unpaged : sure ≡ true → IsOk result

-- a page is read or written: its place names it then
pub record Accessed (sure : Bool) (place : Place) (k : Key) (writes : Bool) (s z : StoreOf)
    (b c : Behind) (result : Result (Unit {0}) PageFault) : Type 0 where
  pub ok : OnOk result (z ≡ record (fetched s z) { names = changed same_place s.names place (Some k) })
  pub err : OnErr result (z ≡ fetched s z)
  pub answered : AccessAnswered sure place (touch k) s z result
  pub eased : IsReady s place (touch k) → z.report ≡ eased s.report z.report
  pub passes : PassesIn sure (Touches (record {
    place = place;
    need = touch k;
    writes = writes;
    start = b.life;
  }) (IsReady s place (touch k)) result) s z b c

-- a page is copied to the key that is the place's own; if that fails, the place may name the page
pub record PageCopied (sure : Bool) (place : Place) (from to : Key) (s z : StoreOf)
    (b c : Behind) (result : Result (Unit {0}) PageFault) : Type 0 where
  pub ok : OnOk result (z ≡ record (fetched s z) {
    names = changed same_place s.names place (Some to);
    paging = changed same_key s.paging to true;
    paging_keys = s.paging_keys + 1;
  })
  pub err : OnErr result (z ≡ record (fetched s z) { names = z.names })
  pub names : OnErr result ((z.names ≡ s.names) ⊎
      (z.names ≡ changed same_place s.names place (Some from)))
  pub answered : AccessAnswered sure place (copying from place) s z result
  pub ready : OnOk result (IsReady z place (touch to))
  pub passes : PassesIn sure (Copies (record {
    place = place;
    need = copying from place;
    writes = true;
    start = b.life;
  }) (IsReady s place (copying from place)) result) s z b c

-- an access of a thread begins, or waits: the place may name the key then
pub record Begins (sure : Bool) (tid : ℕ) (place : Place) (k : Key) (need : Need) (s z : StoreOf)
    (result : Start) : Type 0 where
  pub store : z ≡ started s z
  pub names : (z.names ≡ s.names) ⊎ (z.names ≡ changed same_place s.names place (Some k))
  pub ready : result ≡ start.Ready → IsReady z place need
  pub at_once : result ≡ start.Ready → waits_at_once s.machine.depth k s.report ≡ None
  pub pending : (why : Why) → result ≡ start.Pending why →
      pending s.machine.depth need s.report z.report ≡ Some why
  pub awaited : result ≡ start.Pending why_of.Read → z.report.whereabouts k ≡ Some BeingRead
  pub wait : z.report.wait ≡ changed ◌==◌ s.report.wait tid (wait_after result)
  pub unpaged : sure ≡ true → result ≡ start.Ready

-- ---- blocks of files

-- blocks were written: what holds where each write was made, and where one failed
pub record WroteBlocks (Made Failed : Type 0 → Type 0) (s z : StoreOf) : Type 0 where
  pub served : Served s z
  pub stored : length z.file_blocks ≡ length s.file_blocks
  pub quiet : Made (z.report.file_writes.failed ≡ s.report.file_writes.failed)
  pub failed : Failed (0 < z.report.file_writes.failed)
  pub blamed : Failed (CallFailed s.file_device z.file_device)

-- the block of a file key was written if it did not hold the key's bytes, and no other block
pub record BlockFlushed {E : Type 0} (k : Key) (bytes : Option Page) (s z : StoreOf)
    (result : Result (Unit {0}) E) : Type 0 where
  pub store : z ≡ wrote s z
  pub ok : OnOk result ((block : ℕ) → s.block_of k ≡ Some block → slice_get z.file_blocks block ≡ bytes)
  pub others : (block other : ℕ) → s.block_of k ≡ Some block → other ≢ block →
      slice_get z.file_blocks other ≡ slice_get s.file_blocks other
  pub wrote : WroteBlocks (λ p. OnOk result p) (λ p. OnErr result p) s z

-- a file of `n` pages, at least one, may be made as this area, in the blocks from `first` on
pub record MayMakeFile (s : StoreOf) (area first n : ℕ) : Type 0 where
  pub new : s.areas area ≡ None
  pub few : area < 2 ^ 28
  pub next : first ≡ s.blocks_used
  pub some : 1 ≤ n
  pub room : first + n ≤ s.machine.blocks
  pub kind : s.kind ≡ kind.Call

-- the file was made, or a write of its blocks failed, or memory ran out
pub record NewFile (area first n byte : ℕ) (old new : Key → Option Page) (s z : StoreOf)
    (result : Result (Unit {0}) MakeFault) : Type 0 where
  pub made : OnOk result (new ≡ with_file area n byte old)
  pub kept : OnErr result (new ≡ old)
  pub ok : OnOk result (z ≡ record (wrote s z) {
    areas = changed ◌==◌ s.areas area (Some n);
    block_of = with_blocks area n first s.block_of;
    blocks_used = s.blocks_used + n;
  })
  pub err : OnErr result (z ≡ wrote s z)
  pub memory : IsErrOf result make_fault.Memory → z ≡ s
  pub written : OnOk result ((i : ℕ) → i < n →
      slice_get z.file_blocks (first + i) ≡ Some (filled ((byte + i) % 256)))
  pub others : (block : ℕ) → (block < first) ⊎ (first + n ≤ block) →
      slice_get z.file_blocks block ≡ slice_get s.file_blocks block
  pub wrote : WroteBlocks (λ p. OnOk result p) (λ p. IsErrOf result make_fault.Write → p) s z

-- ---- requests, the paging file

-- the `i`-th oldest request was ended: its device was called, if there are as many
pub record RequestEnded (i : ℕ) (s z : StoreOf) (result : Done) : Type 0 where
  pub store : z ≡ completed s z
  pub none : result ≡ done.None → (s.report.counts.requests < i) × (z ≡ s)
  pub some : s.report.counts.requests < i → result ≡ done.None
  pub ok : result ≡ done.Ok → failed_calls z.report ≡ failed_calls s.report
  pub failed : result ≡ done.Failed → 0 < failed_calls z.report
  pub blamed : result ≡ done.Failed → SomeFailed s z
  pub served : Served s z
  pub stored : length z.file_blocks ≡ length s.file_blocks

-- the paging file was to grow by `n` slots in the line of this number
pub record PagingGrown (sure : Bool) (line n : ℕ) (s z : StoreOf)
    (result : Result (Unit {0}) GrowFault) : Type 0 where
  pub ok : OnOk result (z ≡ record s {
    machine = with_slots s.machine n;
    room = z.room;
    line = line;
    kind = kind.Grow n;
    ready = None;
    report = record (begun s.report) {
      counts = z.report.counts;
      extended = z.report.extended;
    };
  })
  pub extended : OnOk result (is_failed_extension z.report.extended ≡ false)
  pub later : s.room ≤ z.room
  pub failed : IsErrOf result grow_fault.Failed → z ≡ record s {
    line = line;
    kind = kind.Call;
    ready = None;
    report = record (begun s.report) { extended = Some false };
    paging_device = called s.paging_device z.paging_device;
  }
  pub memory : IsErrOf result grow_fault.Memory → z ≡ s
  pub faults : s.paging_device.faults ≤ z.paging_device.faults
  pub cause : IsErrOf result grow_fault.Failed →
      Rose s.paging_device.faults z.paging_device.faults
  pub unpaged : sure ≡ true → IsErrOf result grow_fault.Failed → ⊥
