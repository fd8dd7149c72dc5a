-- A search for a frame: first the modified list is walked, then places are unmapped.
-- Profile, "Which frame moves, and when".
use Rattle.std.specs.Prelude.{◌≡◌, ◌≢◌, ℕ, Bool, true, false, not, ◌&&◌, ◌==◌, if◌then◌else◌, Option, Some, None, List, [], ◌∷◌, ◌++◌}
use Rattle.std.specs.List.{list_any}
use Rattle.mm_types.specs.{IsMachine, Frame, Place, Stored, Move}
use Rattle.mm_types.specs.declared.moves.Move.TheVariants as move
use Rattle.mm_move_rules.specs.{is_on, FrameLife, is_access, is_short, after_move, Replays, can_be_written, Ages, IsVictim}
use Rattle.mm_frame_laws.specs.Room.{IsWithinDepth}
use Rattle.mm_frame_laws.specs.Steps.{list_in_search}

abbrev pub is_lost_of : ℕ → Move → Bool
is_lost_of f (move.Lost g) = g.0 == f
is_lost_of f _ = false

-- a write of the frame failed in these moves
abbrev pub lost_in : List Move → ℕ → Bool
lost_in moves f = list_any (λ m. is_lost_of f m) moves

-- a write of a frame that failed
abbrev pub failed_write : Frame → Stored → List Move
failed_write f home = move.Write f home ∷ move.Lost f ∷ []

-- each modified frame that can be written has a failed write in the moves
abbrev pub AllWritesFailed : FrameLife → List Move → Type 0
AllWritesFailed l moves = (g : ℕ) → is_on g l.frames.modified ≡ true → can_be_written l g ≡ true →
    lost_in moves g ≡ true

-- the same of each frame but one
abbrev pub MissedBut : ℕ → FrameLife → List Move → Type 0
MissedBut f l moves = (g : ℕ) → g ≢ f → is_on g l.frames.modified ≡ true →
    can_be_written l g ≡ true → lost_in moves g ≡ true

-- a state with another modified list
abbrev pub with_modified : FrameLife → List ℕ → FrameLife
with_modified l xs = record l { frames = record l.frames { modified = xs } }

-- the walk has passed over some frames, has some left, and the write of the others failed
pub record Walking (start l : FrameLife) (passed left lost : List ℕ) (moves : List Move) :
    Type 0 where
  pub now : l ≡ with_modified start (list_in_search passed left lost)
  pub over : (g : ℕ) → is_on g passed ≡ true → can_be_written start g ≡ false
  pub tried : (g : ℕ) → is_on g lost ≡ true → lost_in moves g ≡ true

-- a search in an access line has made these moves and has no frame yet: the lists are empty, and
-- each modified frame that can be written has a failed write among the moves
pub record Emptying (start l : FrameLife) (moves : List Move) : Type 0 where
  pub replays : Replays moves start l
  pub machine : IsMachine l.machine
  pub access : is_access l.kind ≡ true
  pub short : is_short l ≡ true
  pub few : IsWithinDepth l
  pub missed : AllWritesFailed l moves

-- ---- the order of a search

abbrev pub first_passing : (ℕ → Bool) → List ℕ → Option ℕ
first_passing test [] = None
first_passing test (x ∷ xs) = if test x then Some x else first_passing test xs

-- a frame that can be written, and has no failed write in the moves of this search
abbrev pub is_untried : FrameLife → List Move → ℕ → Bool
is_untried l made f = can_be_written l f && not (lost_in made f)

-- the first such frame of the modified list
abbrev pub next_try : FrameLife → List Move → Option ℕ
next_try l made = first_passing (is_untried l made) l.frames.modified

abbrev pub written_by : Move → Option ℕ
written_by (move.Write f home) = Some f.0
written_by _ = None

-- the frame whose write the last of the moves began
abbrev pub open_write : List Move → Option ℕ
open_write [] = None
open_write (x ∷ []) = written_by x
open_write (x ∷ y ∷ rest) = open_write (y ∷ rest)

-- a modified frame is written only where it is the next to try
pub record IsWrite (l : FrameLife) (made : List Move) (f : ℕ) : Type 0 where
  pub closed : open_write made ≡ None
  pub next : next_try l made ≡ Some f

-- a place is unmapped only where no modified frame is left to try, and it is the one that goes
-- first
pub record IsUnmap (l : FrameLife) (ages : Ages) (pinned : Option Frame) (made : List Move)
    (place : Place) : Type 0 where
  pub closed : open_write made ≡ None
  pub none : next_try l made ≡ None
  pub victim : IsVictim l ages pinned place

-- a move of a search that has made some: each write is ended by the next move
abbrev pub IsStep : FrameLife → Ages → Option Frame → List Move → Move → Type 0
IsStep l ages pinned made (move.Write f home) = IsWrite l made f.0
IsStep l ages pinned made (move.Wrote f) = open_write made ≡ Some f.0
IsStep l ages pinned made (move.Lost f) = open_write made ≡ Some f.0
IsStep l ages pinned made (move.Unmap place) = IsUnmap l ages pinned made place
IsStep l ages pinned made _ = ⊥

-- the moves of a search, in its order
abbrev pub AreSteps : FrameLife → Ages → Option Frame → List Move → List Move → Type 0
AreSteps l ages pinned made [] = Unit {0}
AreSteps l ages pinned made (x ∷ rest) = IsStep l ages pinned made x ×
    AreSteps (after_move l x) ages pinned (made ++ x ∷ []) rest

-- a search that has come from the one state to the other by these moves, in its order; its failed
-- writes are of frames that are on the modified list
pub record InOrder (start l : FrameLife) (ages : Ages) (pinned : Option Frame) (moves : List Move) :
    Type 0 where
  pub steps : AreSteps start ages pinned [] moves
  pub closed : open_write moves ≡ None
  pub listed : (g : ℕ) → lost_in moves g ≡ true → is_on g l.frames.modified ≡ true

-- the same during the walk
pub record InWalk (start : FrameLife) (ages : Ages) (pinned : Option Frame) (lost : List ℕ)
    (moves : List Move) : Type 0 where
  pub steps : AreSteps start ages pinned [] moves
  pub closed : open_write moves ≡ None
  pub only : (g : ℕ) → lost_in moves g ≡ true → is_on g lost ≡ true
