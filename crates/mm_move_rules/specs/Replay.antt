-- The replay of a list of moves, and of a piece of a log.
-- Profile, "Logs of moves".
use Rattle.std.specs.Prelude.{◌≡◌, ℕ, if◌then◌else◌, List, [], ◌∷◌, Option, Some, None}
use Rattle.mm_types.specs.{Move}
use Rattle.mm_move_rules.specs.Life.{FrameLife, unstarted}
use Rattle.mm_move_rules.specs.Legal.{is_legal, IsLegal}
use Rattle.mm_move_rules.specs.Effect.{after_move}
use Rattle.mm_move_rules.specs.MoveText.{IsSpelled}

-- the moves are legal one after another, and lead from the one state to the other
abbrev pub Replays : List Move → FrameLife → FrameLife → Type 0
Replays [] l m = m ≡ l
Replays (x ∷ xs) l m = IsLegal x l × Replays xs (after_move l x) m

-- the state after the moves; none from the first move on that is not legal
abbrev pub replay : FrameLife → List Move → Option FrameLife
replay l [] = Some l
replay l (x ∷ xs) = let later = replay (after_move l x) xs in if is_legal l x then later else None

-- the moves of a whole log, from the empty one on
abbrev pub replay_log : List Move → Option FrameLife
replay_log moves = replay unstarted moves

-- a piece of a log, the bytes that one call or one line adds, leads from the one state to the other
pub record LeadsTo (piece : List ℕ) (l m : FrameLife) : Type 0 where
  pub moves : List Move
  pub spelled : IsSpelled moves piece
  pub replays : Replays moves l m
