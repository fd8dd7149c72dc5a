-- What the parts keep at all times, in terms of what they show: of lines, of pages, and of what is
-- on devices.
use Rattle.std.specs.Prelude.{◌≡◌, ◌≤◌, ◌<◌, ℕ, true, false, length, Some, None, is_some, slice_get}
use Rattle.mm_types.specs.{end_of_user_pages, IsMachine, Frame, Key, Place}
use Rattle.mm_types.specs.declared.frames.Held.TheVariants as held
use Rattle.mm_move_rules.specs.{ResidentSet, record_at, is_read, is_write, slot_of, FrameLife, is_live, set_of, is_touch, fits_place, slot_at}
use Rattle.mm_move_laws.specs.{ReachedByMoves, is_backed, block_held, IsAdded, is_home_for, is_backing_for}
use Rattle.mm_requests.specs.declared.flights.Waiting.TheVariants as waiting
use Rattle.mm_parts.specs.Shown.{PartsOf, is_own_line, own_is}
use Rattle.mm_parts.specs.Moves.{HasEntry}

-- a process has a working set, of 1 to 65,536 pages at most, and no more than that are valid
pub record HasSet (l : FrameLife) (pid : ℕ) : Type 0 where
  pub set : ResidentSet
  pub found : set_of l pid ≡ Some set
  pub some : 1 ≤ set.max
  pub most : set.max ≤ 65536
  pub within : set.resident ≤ set.max

pub record LinesHold (s : PartsOf) : Type 0 where
  -- the state was reached by legal moves from before the first line
  pub reached : ∥ ReachedByMoves s.life ∥₁
  pub machine : IsMachine s.life.machine
  pub begun : 1 ≤ s.life.line
  -- the line's own request alone passes the depth, and it and the key beside the tables stand
  -- within their line alone
  pub few : s.own ≡ None → length s.life.flight ≤ s.life.machine.depth
  pub own_line : is_some s.own ≡ true → is_own_line s.life.kind ≡ true
  pub copying : is_some s.aside ≡ true → is_touch s.life.kind ≡ true
  -- a thread waits for a read that is in flight and not the line's own
  pub waits : (t : ℕ) (f : Frame) → slice_get s.waits t ≡ Some (waiting.For f) →
      (is_read (record_at s.life.frames f.0).request ≡ true) × (own_is s.own f.0 ≡ false)
  pub threads : length s.waits ≡ 256

pub record PagesHold (s : PartsOf) : Type 0 where
  -- a live key has a word
  pub home : (k : Key) → is_live s.life k ≡ true → HasEntry s.bound s.areas k
  -- a key stands in the frame that has it
  pub owner : (k : Key) (f : Frame) → s.life.stands k ≡ held.Frame f →
      (record_at s.life.frames f.0).owner ≡ Some k
  pub of_frame : (k : Key) (f : Frame) → (record_at s.life.frames f.0).owner ≡ Some k →
      s.life.stands k ≡ held.Frame f
  pub there : (k : Key) (f : Frame) → s.life.stands k ≡ held.Frame f → f.0 < s.life.machine.frames
  pub framed : length s.life.frames.records ≡ s.life.machine.frames
  -- a valid place is bound, and its frame has the key that the place names, which fits it; the
  -- frame has shares and no read
  pub bound : (p : Place) (f : Frame) → s.life.valid p ≡ Some f → s.bound p ≡ true
  pub named : (p : Place) (f : Frame) → s.life.valid p ≡ Some f →
      (record_at s.life.frames f.0).owner ≡ s.names p
  pub owned : (p : Place) (f : Frame) → s.life.valid p ≡ Some f → is_some (s.names p) ≡ true
  pub fits : (p : Place) (f : Frame) (k : Key) → s.life.valid p ≡ Some f →
      (record_at s.life.frames f.0).owner ≡ Some k → fits_place p k ≡ true
  pub low : (p : Place) (f : Frame) → s.life.valid p ≡ Some f → f.0 < s.life.machine.frames
  pub shared : (p : Place) (f : Frame) → s.life.valid p ≡ Some f →
      1 ≤ (record_at s.life.frames f.0).shares
  pub unread : (p : Place) (f : Frame) → s.life.valid p ≡ Some f →
      is_read (record_at s.life.frames f.0).request ≡ false
  -- a place that is not bound names nothing; a bound place is a user page of an open process, which
  -- has a working set
  pub unnamed : (p : Place) → s.bound p ≡ false → s.names p ≡ None
  pub user : (p : Place) → s.bound p ≡ true → p.vpn.0 < end_of_user_pages
  pub open_process : (p : Place) → s.bound p ≡ true → s.is_open p.pid.0 ≡ true
  pub sets : (pid : ℕ) → s.is_open pid ≡ true → HasSet s.life pid

pub record StorageHolds (s : PartsOf) : Type 0 where
  -- a page that is being read is on a device, and so is one that is being written to, which was
  -- changed
  pub reading : (f : Frame) → is_read (record_at s.life.frames f.0).request ≡ true →
      is_backed (record_at s.life.frames f.0).backing ≡ true
  pub writing : (f : Frame) → is_write (record_at s.life.frames f.0).request ≡ true →
      ((record_at s.life.frames f.0).changed ≡ true) ×
      (is_backed (record_at s.life.frames f.0).backing ≡ true)
  -- slots that are held are there, and not free
  pub slotted : length s.life.free_slots ≡ s.life.machine.slots
  pub backed : (f n : ℕ) → slot_of (record_at s.life.frames f).backing ≡ Some n →
      slice_get s.life.free_slots n ≡ Some false
  pub homed : (k : Key) (n : ℕ) → slot_at (s.life.stands k) ≡ Some n →
      slice_get s.life.free_slots n ≡ Some false
  -- no two keys have one block, and a block that a key has is there and was added
  pub blocks_apart : (j k : Key) (b : ℕ) → block_held s.life j ≡ Some b →
      block_held s.life k ≡ Some b → j ≡ k
  pub block_there : (k : Key) (b : ℕ) → block_held s.life k ≡ Some b → IsAdded s.life b
  -- a page-file key is on no block, and any other in no slot
  pub home : (k : Key) → is_home_for (s.life.paging k) (s.life.stands k) ≡ true
  pub backing : (f : ℕ) (k : Key) → (record_at s.life.frames f).owner ≡ Some k →
      is_backing_for (s.life.paging k) (record_at s.life.frames f).backing ≡ true
