-- What a search for a frame can empty: modified frames that can be written, and places whose frame
-- is not pinned. Profile, "Which frame moves, and when".
use Rattle.std.specs.Prelude.{◌≡◌, ◌≤◌, ℕ, true, false, length, Option}
use Rattle.mm_types.specs.{Frame, Place}
use Rattle.mm_move_rules.specs.{is_on, FrameLife, can_be_written, may_go}

-- at most depth requests are in flight
abbrev pub IsWithinDepth : FrameLife → Type 0
IsWithinDepth l = length l.flight ≤ l.machine.depth

-- no place may go
abbrev pub NoneMayGo : FrameLife → Option Frame → Type 0
NoneMayGo l pinned = (place : Place) → may_go l pinned place ≡ false

-- a modified frame that can be written
pub record Writable (l : FrameLife) (f : ℕ) : Type 0 where
  pub modified : is_on f l.frames.modified ≡ true
  pub can : can_be_written l f ≡ true

-- no modified frame can be written
abbrev pub NoneWritable : FrameLife → Type 0
NoneWritable l = (f : ℕ) → is_on f l.frames.modified ≡ true → can_be_written l f ≡ false
