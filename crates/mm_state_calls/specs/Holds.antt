-- What the joined state keeps at all times: of lines, of pages, of what is on devices, and of the
-- line's device calls.
use Rattle.std.specs.Prelude.{◌≡◌, ◌≤◌, ◌<◌, ℕ, ◌+◌, true, false, length, Some, None, is_some}
use Rattle.mm_types.specs.{end_of_user_pages, IsMachine, Frame, Key, Place}
use Rattle.mm_types.specs.declared.frames.Held.TheVariants as held
use Rattle.mm_move_rules.specs.{record_at, is_read, is_write, is_live, is_touch, fits_place, ForFrame}
use Rattle.mm_move_laws.specs.{ReachedByMoves, is_backed, block_held, IsAdded, is_home_for, is_backing_for}
use Rattle.mm_store.specs.{stored_of, is_on_device, bytes_on_devices}
use Rattle.mm_parts.specs.{is_own_line, own_is, HasSet, HasEntry}
use Rattle.mm_state_calls.specs.Shown.{StateOf}

pub record StateHolds (s : StateOf) : Type 0 where
  -- ages are at most 7
  pub young : (p : Place) → s.ages p ≤ 7
  -- the state was reached by legal moves from before the first line
  pub reached : ∥ ReachedByMoves s.life ∥₁
  pub machine : IsMachine s.life.machine
  pub begun : 1 ≤ s.life.line
  -- the line's own request and the key beside the tables stand within their line alone
  pub own_line : is_some s.own ≡ true → is_own_line s.life.kind ≡ true
  pub copying : is_some s.aside ≡ true → is_touch s.life.kind ≡ true
  -- a thread waits for a read that is in flight and not the line's own
  pub awaited : (t f : ℕ) → s.waits t ≡ ForFrame f →
      is_read (record_at s.life.frames f).request ≡ true
  pub others_wait : (t f : ℕ) → s.waits t ≡ ForFrame f → own_is s.own f ≡ false
  -- the live keys have bytes, and words
  pub live : (k : Key) → is_live s.life k ≡ is_some (s.contents k)
  pub home : (k : Key) → is_live s.life k ≡ true → HasEntry s.bound s.areas k
  -- a key stands in the frame that has it
  pub owner : (k : Key) (f : Frame) → s.life.stands k ≡ held.Frame f →
      (record_at s.life.frames f.0).owner ≡ Some k
  pub of_frame : (k : Key) (f : Frame) → (record_at s.life.frames f.0).owner ≡ Some k →
      s.life.stands k ≡ held.Frame f
  pub there : (k : Key) (f : Frame) → s.life.stands k ≡ held.Frame f → f.0 < s.life.machine.frames
  -- a valid place is bound, and its frame has the key that the place names, which fits it; the
  -- frame has shares, and is not being read
  pub bound : (p : Place) (f : Frame) → s.life.valid p ≡ Some f → s.bound p ≡ true
  pub named : (p : Place) (f : Frame) → s.life.valid p ≡ Some f →
      (record_at s.life.frames f.0).owner ≡ s.names p
  pub owned : (p : Place) (f : Frame) → s.life.valid p ≡ Some f → is_some (s.names p) ≡ true
  pub fits : (p : Place) (f : Frame) (k : Key) → s.life.valid p ≡ Some f →
      (record_at s.life.frames f.0).owner ≡ Some k → fits_place p k ≡ true
  pub low : (p : Place) (f : Frame) → s.life.valid p ≡ Some f → f.0 < s.life.machine.frames
  pub shared : (p : Place) (f : Frame) → s.life.valid p ≡ Some f →
      1 ≤ (record_at s.life.frames f.0).shares
  pub unread : (p : Place) (f : Frame) → s.life.valid p ≡ Some f →
      is_read (record_at s.life.frames f.0).request ≡ false
  -- a place that is not bound names nothing; a bound place is a user page of an open process, which
  -- has a working set
  pub unnamed : (p : Place) → s.bound p ≡ false → s.names p ≡ None
  pub user : (p : Place) → s.bound p ≡ true → p.vpn.0 < end_of_user_pages
  pub open_process : (p : Place) → s.bound p ≡ true → s.is_open p.pid.0 ≡ true
  pub sets : (pid : ℕ) → s.is_open pid ≡ true → HasSet s.life pid
  -- a page that is being read is on a device, and so is one that is being written to, which was
  -- changed
  pub reading : (f : Frame) → is_read (record_at s.life.frames f.0).request ≡ true →
      is_backed (record_at s.life.frames f.0).backing ≡ true
  pub writing : (f : Frame) → is_write (record_at s.life.frames f.0).request ≡ true →
      (record_at s.life.frames f.0).changed ≡ true
  -- a page-file key is on no block, and any other in no slot
  pub homes : (k : Key) → is_home_for (s.life.paging k) (s.life.stands k) ≡ true
  pub backings : (f : ℕ) (k : Key) → (record_at s.life.frames f).owner ≡ Some k →
      is_backing_for (s.life.paging k) (record_at s.life.frames f).backing ≡ true
  pub blocks_apart : (j k : Key) (b : ℕ) → block_held s.life j ≡ Some b →
      block_held s.life k ≡ Some b → j ≡ k
  pub block_there : (k : Key) (b : ℕ) → block_held s.life k ≡ Some b → IsAdded s.life b
  -- the devices have a slot and a block each, and what stands unchanged on them has its bytes there
  pub slots : length s.slots ≡ s.life.machine.slots
  pub blocks : length s.blocks ≡ s.life.machine.blocks
  pub stored : (k : Key) → is_on_device (stored_of s.life (s.life.stands k)) ≡ true →
      s.contents k ≡ bytes_on_devices s.slots s.blocks (stored_of s.life (s.life.stands k))
  -- a failed call of the line's search, or a read that failed, is one of the line's device calls
  pub search : 0 < s.told.search_writes.failed →
      0 < s.told.paging_writes.failed + s.told.file_writes.failed
  pub read : is_some s.told.last_failed_read ≡ true →
      0 < s.told.paging_reads.failed + s.told.file_reads.failed
