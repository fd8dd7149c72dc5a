-- What chores do to the joined state: places are unmapped, frames cleared, writes begun.
-- Profile, "Which frame moves, and when".
use Rattle.std.specs.Prelude.{◌≡◌, ◌+◌, ◌-◌, ℕ, suc, Bool, true, false, List, [], ◌∷◌, ◌++◌, length, min, None}
use Rattle.mm_types.specs.{Move, Pid, Place}
use Rattle.mm_types.specs.declared.moves.Move.TheVariants as move
use Rattle.mm_move_rules.specs.{FrameLife, set_of, is_above_min, TrimMove, spare_of, writes_begun, IsOldest, Through}
use Rattle.mm_state_calls.specs.{StateOf, Made, moved, DoesMoves, walk_of}

-- ---- places of a process are unmapped

-- the oldest page of a process that has more than its minimum
pub record UnmapsOldest (pid : Pid) (s z : StateOf) : Type 0 where
  pub place : Place
  pub its : place.pid ≡ pid
  pub above : is_above_min (set_of s.life pid.0) ≡ true
  pub oldest : IsOldest s.life s.ages None place
  pub made : Made (move.Unmap place) s z
  pub same : z ≡ moved s z

-- if it has more
abbrev pub TrimsOne : Pid → Bool → StateOf → StateOf → Type 0
TrimsOne pid true s z = UnmapsOldest pid s z
TrimsOne pid false s z = (is_above_min (set_of s.life pid.0) ≡ false) × (z ≡ s)

-- at most n of them, each the oldest at its move, down to the minimum
pub record Trimmed (pid : Pid) (n : ℕ) (s z : StateOf) : Type 0 where
  pub moves : List Move
  pub does : DoesMoves moves s z
  pub each : Through (TrimMove pid) (walk_of s) moves
  pub count : length moves ≡ min n (spare_of (set_of s.life pid.0))
  pub same : z ≡ moved s z

-- the first i of them
pub record TrimsTo (pid : Pid) (i : ℕ) (s z : StateOf) : Type 0 where
  pub moves : List Move
  pub does : DoesMoves moves s z
  pub each : Through (TrimMove pid) (walk_of s) moves
  pub count : length moves ≡ i
  pub spare : spare_of (set_of s.life pid.0) ≡ i + spare_of (set_of z.life pid.0)
  pub kind : z.life.kind ≡ s.life.kind
  pub same : z ≡ moved s z

-- ---- a chore of at most n moves, each told by the state that it is made in

-- through the modified list, from the front
abbrev pub writings : ℕ → FrameLife → List Move
writings n l = writes_begun n l l.frames.modified

-- its first move, whatever n is, and what is left is the chore of one fewer in the state after it
pub record Round (chore : ℕ → FrameLife → List Move) (s z : StateOf) : Type 0 where
  pub first : Move
  pub made : Made first s z
  pub left : (n : ℕ) → chore (suc n) s.life ≡ first ∷ chore n z.life
  pub kind : z.life.kind ≡ s.life.kind
  pub same : z ≡ moved s z

-- if it has one
abbrev pub Rounds : (ℕ → FrameLife → List Move) → Bool → StateOf → StateOf → Type 0
Rounds chore true s z = Round chore s z
Rounds chore false s z = ((n : ℕ) → chore n s.life ≡ []) × (z ≡ s)

-- its first i moves
pub record RoundsTo (chore : ℕ → FrameLife → List Move) (n i : ℕ) (s z : StateOf) : Type 0 where
  pub moves : List Move
  pub does : DoesMoves moves s z
  pub whole : chore n s.life ≡ moves ++ chore (n - i) z.life
  pub kind : z.life.kind ≡ s.life.kind
  pub same : z ≡ moved s z
