-- Which page goes first: of one process, and of all.
-- Profile, "Which frame moves, and when".
use Rattle.std.specs.Prelude.{◌≡◌, ℕ, Bool, true, false, not, ◌||◌, ◌&&◌, nat_lt, ◌==◌, if◌then◌else◌, Option, Some, None}
use Rattle.mm_types.specs.{Frame, Place}
use Rattle.mm_move_rules.specs.Life.{FrameLife, set_of}
use Rattle.mm_move_rules.specs.Legal.{is_above_min}
use Rattle.mm_move_rules.specs.Victims.{Aged, goes_before}

-- the age of each valid place; of other places it says nothing
abbrev pub Ages : Type 0
Ages = Place → ℕ

abbrev pub aged_at : Ages → Place → Aged
aged_at ages place = record { page = place.vpn.0; age = ages place }

-- of two pages of one process
abbrev pub page_first : Ages → Place → Place → Bool
page_first ages p q = goes_before (aged_at ages p) (aged_at ages q)

-- 0 for a process above its minimum, else 1
abbrev pub turn_of : FrameLife → ℕ → ℕ
turn_of l pid = if is_above_min (set_of l pid) then 0 else 1

-- of two processes: those above their minimum first, then the lowest pid
abbrev pub process_first : FrameLife → ℕ → ℕ → Bool
process_first l p q = nat_lt (turn_of l p) (turn_of l q) ||
    ((turn_of l p == turn_of l q) && nat_lt p q)

-- ---- what may go

abbrev pub is_frame : ℕ → Option Frame → Bool
is_frame n None = false
is_frame n (Some f) = f.0 == n

-- a frame is not the pinned one, if any
abbrev pub is_unpinned : Option Frame → Option Frame → Bool
is_unpinned pinned None = false
is_unpinned pinned (Some f) = not (is_frame f.0 pinned)

-- a page is valid at the place, in a frame that is not pinned
abbrev pub may_go : FrameLife → Option Frame → Place → Bool
may_go l pinned place = is_unpinned pinned (l.valid place)

-- the oldest page of its process that may go
pub record IsOldest (l : FrameLife) (ages : Ages) (pinned : Option Frame) (place : Place) :
    Type 0 where
  pub goes : may_go l pinned place ≡ true
  pub first : (q : Place) → q.pid.0 ≡ place.pid.0 → may_go l pinned q ≡ true →
      page_first ages q place ≡ false

-- the page that a search unmaps: the oldest that may go in the first process that holds one
pub record IsVictim (l : FrameLife) (ages : Ages) (pinned : Option Frame) (place : Place) :
    Type 0 where
  pub oldest : IsOldest l ages pinned place
  pub process : (q : Place) → may_go l pinned q ≡ true → process_first l q.pid.0 place.pid.0 ≡ false
