-- How what a store shows stands to what is behind it: live keys, counts, where pages are, what is
-- valid, where bytes stand.
use Rattle.std.specs.Prelude.{◌≡◌, ◌<◌, ℕ, ◌+◌, Bool, true, false, if◌then◌else◌, is_some, List, length, slice_get, Option, Some, None}
use Rattle.mm_types.specs.{Backing, Held, Record, Frame, Key, Place}
use Rattle.mm_types.specs.declared.frames.Backing.TheVariants as backing
use Rattle.mm_types.specs.declared.frames.Held.TheVariants as held
use Rattle.mm_types.specs.declared.answers.Wait.TheVariants as wait
use Rattle.mm_move_rules.specs.{record_at, is_read, FrameLife, is_live, counts_of, wait_of}
use Rattle.mm_world.specs.{Page, filled, Whereabouts, InFrame, BeingRead, AtZero, InStore}
use Rattle.mm_store.specs.Store.{StoreOf}
use Rattle.mm_store.specs.Behind.{Behind, nothing_behind}

-- where a key's page is
abbrev pub framed_where : Record → Whereabouts
framed_where r = if is_read r.request then BeingRead else InFrame

abbrev pub where_of : FrameLife → Held → Option Whereabouts
where_of l (held.Frame f) = Some (framed_where (record_at l.frames f.0))
where_of l (held.Slot s) = Some InStore
where_of l (held.Block b) = Some InStore
where_of l held.Zero = Some AtZero
where_of l held.Dead = None

-- where the bytes of a key stand on a device: in its home, or, where its frame is not changed, in
-- that frame's backing
abbrev pub in_backing : Backing → Held
in_backing backing.None = held.Dead
in_backing (backing.Slot s) = held.Slot s
in_backing (backing.Block b) = held.Block b

abbrev pub stored_of : FrameLife → Held → Held
stored_of l (held.Frame f) = if (record_at l.frames f.0).changed then held.Dead else
    in_backing (record_at l.frames f.0).backing
stored_of l (held.Slot s) = held.Slot s
stored_of l (held.Block b) = held.Block b
stored_of l held.Zero = held.Zero
stored_of l held.Dead = held.Dead

abbrev pub bytes_on_devices : List Page → List Page → Held → Option Page
bytes_on_devices slots blocks (held.Frame f) = None
bytes_on_devices slots blocks (held.Slot s) = slice_get slots s.0
bytes_on_devices slots blocks (held.Block b) = slice_get blocks b.0
bytes_on_devices slots blocks held.Zero = Some (filled 0)
bytes_on_devices slots blocks held.Dead = None

abbrev pub is_on_device : Held → Bool
is_on_device (held.Frame f) = false
is_on_device (held.Slot s) = true
is_on_device (held.Block b) = true
is_on_device held.Zero = true
is_on_device held.Dead = false

-- a key's block, where it has one, is its home or the backing of its frame
abbrev pub block_at : Held → Option ℕ
block_at (held.Frame f) = None
block_at (held.Slot s) = None
block_at (held.Block b) = Some b.0
block_at held.Zero = None
block_at held.Dead = None

abbrev pub backed_by : FrameLife → Held → Held
backed_by l (held.Frame f) = in_backing (record_at l.frames f.0).backing
backed_by l (held.Slot s) = held.Slot s
backed_by l (held.Block b) = held.Block b
backed_by l held.Zero = held.Zero
backed_by l held.Dead = held.Dead

-- what every store that pages keeps
pub record PagingStands (contents : Key → Option Page) (s : StoreOf) (b : Behind) : Type 0 where
  pub machine : b.life.machine ≡ s.machine
  pub line : b.life.line ≡ s.line
  pub kind : b.life.kind ≡ s.kind
  pub pids : length b.life.sets ≡ s.last_pid
  pub live : (k : Key) → is_live b.life k ≡ is_some (contents k)
  pub paging : (k : Key) → b.life.paging k ≡ s.paging k
  pub paging_keys : b.life.paging_keys ≡ s.paging_keys
  -- a valid place names the owner of its frame
  pub valid : (p : Place) (f : Frame) → b.life.valid p ≡ Some f → is_some (s.names p) ≡ true
  pub named : (p : Place) (f : Frame) → b.life.valid p ≡ Some f →
      (record_at b.life.frames f.0).owner ≡ s.names p
  -- the report
  pub counts : s.report.counts ≡ counts_of b.life
  pub whereabouts : (k : Key) → s.report.whereabouts k ≡ where_of b.life (b.life.stands k)
  pub waits : (tid : ℕ) → s.report.wait tid ≡ wait_of (b.waits tid)
  -- a failed call of the line's search, or a read that failed, is one of the line's device calls
  pub search : 0 < s.report.search_writes.failed →
      0 < s.report.paging_writes.failed + s.report.file_writes.failed
  pub read : is_some s.report.last_failed_read ≡ true →
      0 < s.report.paging_reads.failed + s.report.file_reads.failed
  -- devices
  pub block : (k : Key) → s.block_of k ≡ block_at (backed_by b.life (b.life.stands k))
  pub slots : length b.slots ≡ s.machine.slots
  pub stored : (k : Key) → is_on_device (stored_of b.life (b.life.stands k)) ≡ true →
      contents k ≡ bytes_on_devices b.slots s.file_blocks (stored_of b.life (b.life.stands k))

-- where a store pages nothing, nothing stands behind it, and no thread waits
pub record Rests (s : StoreOf) (b : Behind) : Type 0 where
  pub nothing : b ≡ nothing_behind
  pub idle : (tid : ℕ) → s.report.wait tid ≡ wait.None

-- of any store
abbrev pub StandsIn : Bool → (Key → Option Page) → StoreOf → Behind → Type 0
StandsIn true contents s b = Rests s b
StandsIn false contents s b = PagingStands contents s b
