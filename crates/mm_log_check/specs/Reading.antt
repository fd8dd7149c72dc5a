-- A log that is read line by line.
-- Profile, "Logs of moves".
use Rattle.std.specs.Prelude.{◌≡◌, ℕ, ◌+◌, ◌<◌, ◌≤◌, false, List, [], ◌∷◌, ◌++◌, length, take, drop, Option, Some, None, Result, Ok, Err}
use Rattle.mm_types.specs.{Took, Text, Move}
use Rattle.mm_move_rules.specs.{move_text, spelled_moves, IsMove, AreMoves, FrameLife, is_legal, IsLegal}
use Rattle.mm_log_check.specs.Verdict.{most_log_bytes, EndsAt}
use Rattle.mm_log_check.specs.declared.endings.Ending.{Ending}
use Rattle.mm_log_check.specs.declared.endings.Ending.TheVariants as ending
use Rattle.mm_log_check.specs.declared.readers.LogReader.{LogReader}

-- so few bytes are held and were taken that one more line may be read
pub record IsReadyToRead (r : LogReader) : Type 0 where
  pub held : length r.held < 4096
  pub few : r.bytes ≤ most_log_bytes
  -- each line has a byte
  pub lines : r.lines + length r.held ≤ r.bytes

-- Bytes were taken: the lines of these moves, and those after them that are held.
pub record Lines (left left' : Option Text) (held : Text) (moves : List Move) (total : ℕ) :
    Type 0 where
  pub taken : Text
  pub took : Took left left' taken
  pub whole : taken ≡ spelled_moves moves ++ held
  pub in_range : AreMoves moves
  pub total_is : total ≡ length taken

pub record Reading (left left' : Option Text) (r : LogReader) (moves : List Move) : Type 0 where
  pub lines : Lines left left' r.held moves r.bytes
  pub number : r.lines ≡ length moves

-- the next line is a move that is legal in this state
pub record ReadsMoves (left left' : Option Text) (r : LogReader) (moves : List Move) (l : FrameLife)
    (m : Move) : Type 0 where
  pub reading : Reading left left' r (moves ++ m ∷ [])
  pub legal : IsLegal m l

-- it came to an end after these moves, which lead to this state
pub record Stops (left left' : Option Text) (moves : List Move) (l : FrameLife) (e : Ending) :
    Type 0 where
  pub held : Text
  pub total : ℕ
  pub lines : Lines left left' held moves total
  pub ends : EndsAt e left' moves l held total

-- the move that a bad line spells
abbrev pub refused_of : Ending → Option Move
refused_of (ending.No line refused) = refused
refused_of _ = None

-- the line, without its line feed, is this move's, or no move's
abbrev pub IsSpelling : Option Move → Text → Type 0
IsSpelling (Some m) line = IsMove m × (move_text m ≡ line)
IsSpelling None line = (m : Move) → IsMove m → move_text m ≡ line → ⊥

-- the line in front is a move that is legal in this state, and was taken; or it is none, and
-- nothing was
pub record TakesMove (r r' : LogReader) (len : ℕ) (l : FrameLife) (m : Move) : Type 0 where
  pub in_range : IsMove m
  pub text : move_text m ≡ take len r.held
  pub legal : IsLegal m l
  pub held : r'.held ≡ drop (len + 1) r.held
  pub lines : r'.lines ≡ r.lines + 1
  pub bytes : r'.bytes ≡ r.bytes

pub record TakesNone (r r' : LogReader) (len : ℕ) (l : FrameLife) (e : Ending) : Type 0 where
  pub none : (m : Move) → IsMove m → move_text m ≡ take len r.held → is_legal l m ≡ false
  pub spelled : IsSpelling (refused_of e) (take len r.held)
  pub no : e ≡ ending.No (r.lines + 1) (refused_of e)

abbrev pub TakesNext : LogReader → LogReader → ℕ → FrameLife → Result Move Ending → Type 0
TakesNext r r' len l (Ok m) = TakesMove r r' len l m
TakesNext r r' len l (Err e) = TakesNone r r' len l e
