-- Where a key's bytes stand, and how the bytes of frames and of the two devices fit a replay's
-- state. Profile, "Logs of moves".
use Rattle.std.specs.Prelude.{◌≡◌, ℕ, true, false, if◌then◌else◌, is_some, List, length, replicate, Option, Some, None, slice_get, slice_index_or}
use Rattle.mm_types.specs.{Frame, Key, Record, Held, page_size}
use Rattle.mm_types.specs.declared.frames.Held.TheVariants as held
use Rattle.mm_move_rules.specs.Frames.{record_at, is_read, is_on}
use Rattle.mm_move_rules.specs.Life.{FrameLife, is_live}
use Rattle.mm_move_rules.specs.Effect.{home_at}

-- ---- where a key stands

-- in a frame, or in its backing while that is being read
abbrev pub held_in : Frame → Record → Held
held_in f r = if is_read r.request then home_at r.backing else held.Frame f

abbrev pub located : FrameLife → Held → Held
located l (held.Frame f) = held_in f (record_at l.frames f.0)
located l (held.Slot s) = held.Slot s
located l (held.Block b) = held.Block b
located l held.Zero = held.Zero
located l held.Dead = held.Dead

-- where the bytes of a key stand: its frame, or where that is being read its backing; without a
-- frame its home
abbrev pub held_at : FrameLife → Key → Held
held_at l k = located l (l.stands k)

-- ---- the bytes there

-- for each frame its 4,096 bytes, or nothing where it was never written
abbrev pub FrameBytes : Type 0
FrameBytes = List (Option (List ℕ))

-- for each block of a device its 4,096 bytes; a page-file slot is a block of the paging device
abbrev pub BlockBytes : Type 0
BlockBytes = List (List ℕ)

-- a page of zeros
abbrev pub zero_page : List ℕ
zero_page = replicate page_size 0

abbrev pub frame_page : FrameBytes → ℕ → Option (List ℕ)
frame_page ram f = slice_index_or ram f None

abbrev pub bytes_at : FrameBytes → BlockBytes → BlockBytes → Held → Option (List ℕ)
bytes_at ram slots blocks (held.Frame f) = frame_page ram f.0
bytes_at ram slots blocks (held.Slot s) = slice_get slots s.0
bytes_at ram slots blocks (held.Block b) = slice_get blocks b.0
bytes_at ram slots blocks held.Zero = Some zero_page
bytes_at ram slots blocks held.Dead = None

-- the bytes of each live key, where they stand
abbrev pub contents_of : FrameLife → FrameBytes → BlockBytes → BlockBytes → Key → Option (List ℕ)
contents_of l ram slots blocks k = bytes_at ram slots blocks (held_at l k)

-- ---- the bytes fit the state

-- the bytes of the frames, and the blocks of the paging device and of the file device, are those of
-- this state
pub record BytesLocated (l : FrameLife) (ram : FrameBytes) (slots blocks : BlockBytes) :
    Type 0 where
  -- a frame with an owner that is neither changed nor being read equals its backing
  pub clean : (f : ℕ) → is_some (record_at l.frames f).owner ≡ true →
      (record_at l.frames f).changed ≡ false → is_read (record_at l.frames f).request ≡ false
      → frame_page ram f ≡ bytes_at ram slots blocks (home_at (record_at l.frames f).backing)
  -- a zeroed frame is all zero
  pub zeroed : (f : ℕ) → is_on f l.frames.zeroed ≡ true → frame_page ram f ≡ Some zero_page
  -- the live keys have bytes, and no others
  pub live : (k : Key) → is_some (contents_of l ram slots blocks k) ≡ is_live l k
  -- as many frames, slots and blocks as the machine has now
  pub frame_room : length ram ≡ l.machine.frames
  pub room : length slots ≡ l.machine.slots
  pub file_room : length blocks ≡ l.machine.blocks
