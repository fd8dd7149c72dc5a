-- What a move has to know of the state before it: frames and keys agree on who is where, a frame
-- with a valid place has a share, and the frames in flight have a request.
use Rattle.std.specs.Prelude.{◌≡◌, ℕ, ◌<◌, ◌≤◌, true, false, List, length, Option, Some, None, slice_get}
use Rattle.mm_types.specs.{Frame, Key, Place, Record, Held}
use Rattle.mm_types.specs.declared.frames.Held.TheVariants as held
use Rattle.mm_move_rules.specs.{FrameTable, record_at, is_first, is_on, is_idle, has_request, FrameLife}
use Rattle.mm_replay.specs.Listed.{record_of, is_owned}

abbrev pub frame : ℕ → Frame
frame f = record { 0 = f }

-- ---- what the lists say of the records

pub record IsEmptyFrame (d : FrameTable) (f : ℕ) : Type 0 where
  pub low : f < length d.records
  pub owner : (record_at d f).owner ≡ None
  pub shares : (record_at d f).shares ≡ 0
  pub quiet : has_request (record_at d f).request ≡ false

pub record Listed (d : FrameTable) : Type 0 where
  pub zeroed : (f : ℕ) → is_first f d.zeroed ≡ true → IsEmptyFrame d f
  pub free : (f : ℕ) → is_first f d.free ≡ true → IsEmptyFrame d f
  pub standby : (f : ℕ) → is_first f d.standby ≡ true → is_idle (record_at d f) ≡ true
  pub modified : (f : ℕ) → is_on f d.modified ≡ true → is_idle (record_at d f) ≡ true
  pub owned : (f : ℕ) → is_owned (record_at d f) ≡ true

-- ---- owners

-- a frame has the key as its owner exactly where the key stands in the frame
pub record AreOwned (owner : ℕ → Option Key) (stands : Key → Held) : Type 0 where
  pub there : (f : ℕ) (k : Key) → owner f ≡ Some k → stands k ≡ held.Frame (frame f)
  pub back : (k : Key) (f : Frame) → stands k ≡ held.Frame f → owner f.0 ≡ Some k

-- ---- a state

abbrev pub owner_in : FrameTable → ℕ → Option Key
owner_in d f = (record_at d f).owner

-- each frame in the list has a request
abbrev pub Requested : List Record → List ℕ → Type 0
Requested records flight = (k f : ℕ) → slice_get flight k ≡ Some f →
    has_request (record_of records f).request ≡ true

pub record SoundReplay (l : FrameLife) : Type 0 where
  pub sized : length l.frames.records ≡ l.machine.frames
  pub owned : AreOwned (owner_in l.frames) l.stands
  pub shared : (p : Place) (f : Frame) → l.valid p ≡ Some f → 1 ≤ (record_at l.frames f.0).shares
  pub requested : Requested l.frames.records l.flight
