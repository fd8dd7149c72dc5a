-- The counts of a log.
-- Profile, "Logs of moves".
use Rattle.std.specs.Prelude.{ℕ, ◌+◌, Bool, true, false, if◌then◌else◌, List, [], ◌∷◌, length, count_by}
use Rattle.mm_types.specs.{Move}
use Rattle.mm_types.specs.declared.moves.Move.TheVariants as move
use Rattle.mm_move_rules.specs.Frames.{is_on}

pub record CountsOfLog : Type 0 where
  pub moves : ℕ
  pub zero_fills : ℕ
  pub soft_faults : ℕ
  pub hard_faults : ℕ
  pub steals : ℕ
  pub write_outs : ℕ

abbrev pub is_give : Move → Bool
is_give (move.Give f k) = true
is_give _ = false

abbrev pub is_read_in : Move → Bool
is_read_in (move.Read f k) = true
is_read_in _ = false

abbrev pub is_steal : Move → Bool
is_steal (move.Steal f) = true
is_steal _ = false

abbrev pub is_wrote : Move → Bool
is_wrote (move.Wrote f) = true
is_wrote _ = false

-- the frames that have a `give` or a `got` since the line's `at`
abbrev pub brought_in : List ℕ → Move → List ℕ
brought_in frames (move.At n k) = []
brought_in frames (move.Give f k) = f.0 ∷ frames
brought_in frames (move.Got f) = f.0 ∷ frames
brought_in frames _ = frames

-- a `map` of a frame that has neither
abbrev pub soft_fault : List ℕ → Move → ℕ
soft_fault frames (move.Map f place) = if is_on f.0 frames then 0 else 1
soft_fault frames _ = 0

abbrev pub soft_faults_from : List ℕ → List Move → ℕ
soft_faults_from frames [] = 0
soft_faults_from frames (m ∷ ms) = soft_fault frames m + soft_faults_from (brought_in frames m) ms

abbrev pub soft_faults : List Move → ℕ
soft_faults moves = soft_faults_from [] moves

abbrev pub counts_of_log : List Move → CountsOfLog
counts_of_log moves = record {
  moves = length moves;
  zero_fills = count_by is_give moves;
  soft_faults = soft_faults moves;
  hard_faults = count_by is_read_in moves;
  steals = count_by is_steal moves;
  write_outs = count_by is_wrote moves;
}
