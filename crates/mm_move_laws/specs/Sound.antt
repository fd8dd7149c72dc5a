-- What each legal move keeps, and so holds of each state that a replay reaches.
-- Profile, "Logs of moves".
use Rattle.std.specs.Prelude.{◌≡◌, ◌≤◌, ℕ, Bool, true, false, not, is_some, List, length, Option, Some, None, slice_get}
use Rattle.mm_types.specs.{limit_of, Frame, Key, Place, Held}
use Rattle.mm_types.specs.declared.frames.Held.TheVariants as held
use Rattle.mm_move_rules.specs.{ResidentSet, FrameTable, record_at, FrameLife, same_key, same_place, set_in, is_access, is_call, fits_place}
use Rattle.mm_move_laws.specs.Tally.{one_if, tally}
use Rattle.mm_move_laws.specs.Holders.{Holder, holding}
use Rattle.mm_move_laws.specs.Places.{is_of, residents}
use Rattle.mm_move_rules.specs.{is_frame}
use Rattle.mm_move_laws.specs.PagingKeys.{is_home_for, is_backing_for}
use Rattle.mm_move_laws.specs.Sights.{FramesStand}

abbrev pub frame : ℕ → Frame
frame n = record { 0 = n }

abbrev pub owner_at : FrameTable → ℕ → Option Key
owner_at d f = (record_at d f).owner

-- a frame has a key exactly where the key stands in it
pub record Owned (d : FrameTable) (stands : Key → Held) : Type 0 where
  pub owned : (f : ℕ) (k : Key) → owner_at d f ≡ Some k → stands k ≡ held.Frame (frame f)
  pub owner : (k : Key) (f : Frame) → stands k ≡ held.Frame f → owner_at d f.0 ≡ Some k

-- for each slot that is not free its holder; and what holds a slot is that slot's holder
pub record SlotsHeld (free : List Bool) (held_by : Holder → Option ℕ) : Type 0 where
  pub holder : ℕ → Option Holder
  pub found : (h : Holder) (s : ℕ) → held_by h ≡ Some s → holder s ≡ Some h
  pub held : (s : ℕ) (h : Holder) → holder s ≡ Some h → held_by h ≡ Some s
  pub taken : (s : ℕ) (b : Bool) → slice_get free s ≡ Some b → is_some (holder s) ≡ not b
  pub past : (s : ℕ) → slice_get free s ≡ None → holder s ≡ None

-- the valid places in a list, and how many there are for each frame and in each process
pub record Shown (valid : Place → Option Frame) (d : FrameTable) (sets : List ResidentSet) :
    Type 0 where
  pub places : List Place
  pub once : (p : Place) → tally (same_place p) places ≡ one_if (is_some (valid p))
  pub shares : (f : ℕ) → tally (λ p. is_frame f (valid p)) places ≡ (record_at d f).shares
  pub resident : (pid : ℕ) → tally (is_of pid) places ≡ residents (set_in sets pid)
  -- a private page is valid at its own place alone
  pub fits : (p : Place) (f : Frame) (k : Key) → valid p ≡ Some f →
      (record_at d f.0).owner ≡ Some k → fits_place p k ≡ true
  -- no working set is larger than its max
  pub below : (pid : ℕ) (s : ResidentSet) → set_in sets pid ≡ Some s → s.resident ≤ s.max

-- the page-file keys in a list, and how many there are
pub record Paged (paging : Key → Bool) (count : ℕ) : Type 0 where
  pub keys : List Key
  pub once : (k : Key) → tally (same_key k) keys ≡ one_if (paging k)
  pub long : length keys ≡ count

-- a page-file key is on no block, by its home or its frame's backing, and any other key in no slot
pub record Homed (paging : Key → Bool) (d : FrameTable) (stands : Key → Held) : Type 0 where
  pub home : (k : Key) → is_home_for (paging k) (stands k) ≡ true
  pub backing : (f : ℕ) (k : Key) → owner_at d f ≡ Some k →
      is_backing_for (paging k) (record_at d f).backing ≡ true

pub record Sound (l : FrameLife) : Type 0 where
  -- each frame is where its record says, and the requests in flight are those of the records
  pub standing : FramesStand l.frames l.flight
  pub owned : Owned l.frames l.stands
  pub held : SlotsHeld l.free_slots (holding l.frames l.stands)
  pub shown : Shown l.valid l.frames l.sets
  pub paged : Paged l.paging l.paging_keys
  pub homed : Homed l.paging l.frames l.stands
  pub limited : l.paging_keys ≤ limit_of l.machine
  -- plain accesses and calls alone pass the depth
  pub few : is_access l.kind ≡ false → is_call l.kind ≡ false → length l.flight ≤ l.machine.depth
  pub framed : length l.frames.records ≡ l.machine.frames
  pub slotted : length l.free_slots ≡ l.machine.slots
