-- What the text of a form is, where the bytes of the log are told.
-- Profile, "What a log shows".
use Rattle.std.specs.Prelude.{◌≡◌, ◌⊎◌, ℕ, ◌+◌, ◌≤◌, true, false, List, [], ◌∷◌, ◌++◌, length}
use Rattle.std.specs.Prelude.{Option, Some, None}
use Rattle.mm_types.specs.{Text, Move, LineKind}
use Rattle.mm_types.specs.declared.moves.Move.TheVariants as move
use Rattle.mm_move_rules.specs.{IsSpelled, AreMoves, spelled_moves, FrameLife, unstarted, Replays}
use Rattle.mm_log_check.specs.{most_log_bytes, IsStuck, SpellsMove}
use Rattle.mm_log_check.specs.declared.endings.Ending.TheVariants as ending
use Rattle.mm_log_walk.specs.Fitting.{Beside, fits, AreFit, misfit_closing, surplus}
use Rattle.mm_log_walk.specs.Telling.{Said}
use Rattle.mm_log_walk.specs.Seeking.{sought_status, sought_words}
use Rattle.mm_log_walk.specs.Answering.{EndsSaying, Why, close_words}
use Rattle.mm_log_walk.specs.declared.seeking.Sought.{Sought}
use Rattle.mm_log_walk.specs.declared.closings.Closing.TheVariants as closing

-- the bytes are the spelling of moves that replay and fit
pub record IsWhole (b : Beside) (left : Option Text)
    (moves : List Move) : Type 0 where
  pub text : Text
  pub told : left ≡ Some text
  pub few : length text ≤ most_log_bytes
  pub spelled : IsSpelled moves text
  pub life : FrameLife
  pub replays : Replays moves unstarted life
  pub fit : AreFit b moves

-- after the lines of moves that replay and fit stands none of a legal move
pub record IsCutLog (b : Beside) (left : Option Text)
    (moves : List Move) : Type 0 where
  pub text : Text
  pub rest : Text
  pub told : left ≡ Some text
  pub few : length text ≤ most_log_bytes
  pub in_range : AreMoves moves
  pub whole : text ≡ spelled_moves moves ++ rest
  pub life : FrameLife
  pub replays : Replays moves unstarted life
  pub stuck : IsStuck life rest
  -- the move, if any, that the line after them spells
  pub refused : Option Move
  pub spelled : SpellsMove refused rest
  pub fit : AreFit b moves

-- the log replays up to the line n, which is the first that does not fit
pub record IsMisfitAt (b : Beside) (left : Option Text) (moves : List Move)
    (n : ℕ) : Type 0 where
  pub text : Text
  pub rest : Text
  pub kind : LineKind
  pub told : left ≡ Some text
  pub few : length text ≤ most_log_bytes
  pub in_range : AreMoves (moves ++ move.At n kind ∷ [])
  pub whole : text ≡ spelled_moves (moves ++ move.At n kind ∷ []) ++ rest
  pub life : FrameLife
  pub replays : Replays (moves ++ move.At n kind ∷ []) unstarted life
  pub fit : AreFit b moves
  pub misfit : fits b (move.At n kind) ≡ false

-- a read of the log failed behind the first of these moves, and those were told
pub record ToldInPart (said : Said) (moves : List Move) (took took' : Option Text) (result : ℕ) :
    Type 0 where
  pub front : List Move
  pub behind : List Move
  pub whole : moves ≡ front ++ behind
  pub says : EndsSaying took took' result 4 (said false front)

abbrev pub SaysOf : Said → List Move → Option Text → Option Text → ℕ → ℕ → Text → Type 0
SaysOf said moves took took' result status text =
    EndsSaying took took' result status text ⊎ ToldInPart said moves took took' result

-- what a form says of such logs, each exactly
pub record SaysExactly (b : Beside) (sought : Sought) (said : Said) (why : Why)
    (left took took' : Option Text) (result : ℕ) : Type 0 where
  pub whole : (moves : List Move) (w : IsWhole b left moves)
      → surplus b.answers w.life.line ≡ None
      → SaysOf said moves took took' result (sought_status sought w.life)
      (said true moves ++ sought_words sought w.life)
  pub too_many : (moves : List Move) (n : ℕ) (w : IsWhole b left moves)
      → surplus b.answers w.life.line ≡ Some n
      → SaysOf said moves took took' result 6 (said false moves
      ++ close_words sought why unstarted (closing.Surplus n))
  pub cut : (moves : List Move) (c : IsCutLog b left moves)
      → SaysOf said moves took took' result 3 (said false moves
      ++ close_words sought why c.life (closing.Ended (ending.No (length moves + 1) c.refused)))
  pub misfit : (moves : List Move) (n : ℕ) (m : IsMisfitAt b left moves n)
      → SaysOf said moves took took' result 6 (said false moves
      ++ close_words sought why unstarted (misfit_closing b n m.kind))
