-- How many places are valid: for a frame, and in a process.
-- Profile, "Logs of moves".
use Rattle.std.specs.Prelude.{◌≡◌, ℕ, ◌+◌, Bool, false, ◌==◌, is_some, List, [], ◌∷◌, Option, Some, None}
use Rattle.mm_types.specs.{Frame, Place}
use Rattle.mm_move_rules.specs.{record_at, FrameLife, same_place, set_of, ResidentSet}
use Rattle.mm_move_laws.specs.Tally.{one_if, tally}
use Rattle.mm_move_rules.specs.{is_frame}

-- the place is valid for the frame
abbrev pub shows : FrameLife → ℕ → Place → Bool
shows l f place = is_frame f (l.valid place)

abbrev pub is_of : ℕ → Place → Bool
is_of pid place = place.pid.0 == pid

-- how many places of a process are valid, by its working set
abbrev pub residents : Option ResidentSet → ℕ
residents None = 0
residents (Some s) = s.resident

-- how many places are valid, by the working sets
abbrev pub residents_in : List ResidentSet → ℕ
residents_in [] = 0
residents_in (s ∷ rest) = s.resident + residents_in rest

abbrev pub valid_places : FrameLife → ℕ
valid_places l = residents_in l.sets

-- how many the working sets have room for
abbrev pub maxima_in : List ResidentSet → ℕ
maxima_in [] = 0
maxima_in (s ∷ rest) = s.max + maxima_in rest

-- a list has each valid place once and no other; so many of them show a frame as it has shares, and
-- so many are of a process as its working set says
pub record CountsPlaces (l : FrameLife) : Type 0 where
  pub places : List Place
  pub once : (place : Place) → tally (same_place place) places ≡ one_if (is_some (l.valid place))
  pub shares : (f : ℕ) → tally (shows l f) places ≡ (record_at l.frames f).shares
  pub resident : (pid : ℕ) → tally (is_of pid) places ≡ residents (set_of l pid)
