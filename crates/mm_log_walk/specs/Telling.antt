-- A log that is told, move by move.
-- Profile, "What a log shows".
use Rattle.std.specs.Prelude.{◌≡◌, ℕ, Bool, true, false, List, [], ◌∷◌, ◌++◌, Option}
use Rattle.mm_types.specs.{Text, Appended, Move, LineKind}
use Rattle.mm_types.specs.declared.moves.Move.TheVariants as move
use Rattle.mm_move_rules.specs.{FrameLife, unstarted, IsLegal, Replays}
use Rattle.mm_log_check.specs.{Lines, Stops, LogReader}
use Rattle.mm_log_check.specs.Reading.{Reading}
use Rattle.mm_log_check.specs.declared.endings.Ending.TheVariants as ending
use Rattle.mm_log_walk.specs.Fitting.{Beside, fits, AreFit, misfit_closing, whole_closing, surplus}
use Rattle.mm_log_walk.specs.declared.closings.Closing.{Closing}
use Rattle.mm_log_walk.specs.declared.closings.Closing.TheVariants as closing

-- the text that is still to come, as a teller has it: whether the log ends well, the state, and the
-- moves that follow
abbrev pub RestOf : Type 0
RestOf = Bool → FrameLife → List Move → Text

-- From the first state on these moves were told, and this text came of it.
abbrev pub WereTold : RestOf → List Move → RestOf → FrameLife → Text → Type 0
WereTold rest moves rest' l text =
    (whole : Bool) (ms : List Move) → text ++ rest' whole l ms ≡ rest whole unstarted (moves ++ ms)

-- of a text that was kept a front was written, and this is kept now
pub record Poured (took took' : Option Text) (text kept : Text) : Type 0 where
  pub written : Text
  pub appended : Appended took took' written
  pub whole : text ≡ written ++ kept

-- the moves so far were read and made, fit the script, and were told: of the text that came of
-- them a front was written, and this is kept
pub record Tells (left left' took took' : Option Text) (b : Beside) (r : LogReader)
    (rest rest' : RestOf) (l : FrameLife) (kept : Text) : Type 0 where
  pub moves : List Move
  pub reading : Reading left left' r moves
  pub replays : Replays moves unstarted l
  pub fit : AreFit b moves
  pub written : Text
  pub appended : Appended took took' written
  pub told : WereTold rest moves rest' l (written ++ kept)

-- the next line is a legal move that does not fit
pub record Misfits (left left' : Option Text) (b : Beside) (moves : List Move) (l : FrameLife)
    (c : Closing) : Type 0 where
  pub line : ℕ
  pub kind : LineKind
  pub held : Text
  pub total : ℕ
  pub lines : Lines left left' held (moves ++ move.At line kind ∷ []) total
  pub legal : IsLegal (move.At line kind) l
  pub misfit : fits b (move.At line kind) ≡ false
  pub close : c ≡ misfit_closing b line kind

-- the log is whole, and this is how it closes with its answers
pub record EndsWhole (left left' : Option Text) (b : Beside) (moves : List Move) (l : FrameLife)
    (c : Closing) : Type 0 where
  pub stop : Stops left left' moves l ending.Yes
  pub close : c ≡ whole_closing (surplus b.answers l.line)

abbrev pub ClosesAt : Closing → Option Text → Option Text → Beside → List Move → FrameLife
    → Type 0
ClosesAt (closing.Ended ending.Yes) left left' b moves l =
    EndsWhole left left' b moves l (closing.Ended ending.Yes)
ClosesAt (closing.Ended e) left left' b moves l = Stops left left' moves l e
ClosesAt (closing.Misfit n) left left' b moves l = Misfits left left' b moves l (closing.Misfit n)
ClosesAt (closing.Answer n) left left' b moves l = Misfits left left' b moves l (closing.Answer n)
ClosesAt (closing.Surplus n) left left' b moves l =
    EndsWhole left left' b moves l (closing.Surplus n)
ClosesAt closing.OutFault left left' b moves l = ⊥

-- and that came to an end
pub record Closes (left left' took took' : Option Text) (b : Beside) (rest : RestOf)
    (c : Closing) (rest' : RestOf) (l : FrameLife) (kept : Text) : Type 0 where
  pub moves : List Move
  pub replays : Replays moves unstarted l
  pub fit : AreFit b moves
  pub written : Text
  pub appended : Appended took took' written
  pub told : WereTold rest moves rest' l (written ++ kept)
  pub at : ClosesAt c left left' b moves l

-- what a form says of the moves of a log that ends well, or of those before a bad line
abbrev pub Said : Type 0
Said = Bool → List Move → Text

-- what a teller says from the first move on
abbrev pub said_from_first : RestOf → Said
said_from_first rest whole moves = rest whole unstarted moves

-- this stands in front of what is said of each log that begins with these moves
pub record BeginsAll (said : Said) (moves : List Move) (front : Text) (whole : Bool)
    (more : List Move) : Type 0 where
  pub behind : Text
  pub is_front : said whole (moves ++ more) ≡ front ++ behind

-- these moves were read, and fit; of what is said of each log that begins so a front was written
pub record HasBegun (left left' took took' : Option Text) (b : Beside) (said : Said) : Type 0 where
  pub moves : List Move
  pub life : FrameLife
  pub held : Text
  pub total : ℕ
  pub lines : Lines left left' held moves total
  pub replays : Replays moves unstarted life
  pub fit : AreFit b moves
  pub front : Text
  pub written : Appended took took' front
  pub begins : (whole : Bool) (more : List Move) → BeginsAll said moves front whole more

-- memory was refused, or a write failed
abbrev pub is_broken : Closing → Bool
is_broken (closing.Ended ending.NoMemory) = true
is_broken closing.OutFault = true
is_broken _ = false

-- it came to an end, or not so far
abbrev pub HaltsTelling : Bool → Option Text → Option Text → Option Text → Option Text → Beside → RestOf
    → Closing → RestOf → FrameLife → Text → Type 0
HaltsTelling false left left' took took' b rest c rest' l kept =
    Closes left left' took took' b rest c rest' l kept
HaltsTelling true left left' took took' b rest c rest' l kept =
    HasBegun left left' took took' b (said_from_first rest)
