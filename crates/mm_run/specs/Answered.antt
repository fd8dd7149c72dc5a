-- The lines of a run, one after another.
-- Profile, "A run".
use Rattle.std.specs.Prelude.{◌≡◌, ◌⊎◌, ℕ, suc, true, List, [], ◌∷◌, Option, map, Ok}
use Rattle.std.specs.List.{flat_map}
use Rattle.mm_types.specs.{Text, Answer, Event, Move}
use Rattle.mm_move_rules.specs.{IsFrontOf}
use Rattle.mm_io.specs.{FitsLine}
use Rattle.mm_script.specs.{IsLine as IsLineFor}
use Rattle.mm_devices.specs.{NamedMade}
use Rattle.mm_line_moves.specs.{AnsweredAlike}
use Rattle.mm_dispatch.specs.{IsFailure}
use Rattle.mm_run.specs.Reading.{reading_of}
use Rattle.mm_run.specs.Scenes.{Stage, Running, HasNoted, Follows, log_of}
use Rattle.mm_run.specs.Steps.{IsDecided}
use Rattle.mm_run.specs.Written.{AnsweredLine}

-- A line that was decided: its text without the line feed, its event, its answer, its moves, and
-- what the run shows before and after it.
pub record DecidedLine : Type 0 where
  pub text : Text
  pub event : Event
  pub answer : Answer
  pub moves : List Move
  pub before : Stage
  pub after : Stage

abbrev pub texts_of : List DecidedLine → List Text
texts_of lines = map (λ l. l.text) lines

abbrev pub answers_in : List DecidedLine → List Answer
answers_in lines = map (λ l. l.answer) lines

-- the same lines, by their events and answers alone
abbrev pub answered_lines : List DecidedLine → List AnsweredLine
answered_lines lines = map (λ l. record { event = l.event; answer = l.answer }) lines

abbrev pub moves_of : List DecidedLine → List Move
moves_of lines = flat_map (λ l. l.moves) lines

-- After n others a text is a line in the grammar that says this event.
pub record LineSays (n : ℕ) (text : Text) (event : Event) : Type 0 where
  pub is_line : FitsLine text
  pub says : reading_of n text ≡ Ok event
  pub grammar : IsLineFor text event

-- After n others and at this stage, the line is in the grammar, and is decided.
pub record IsNextLine (n : ℕ) (old : Stage) (l : DecidedLine) : Type 0 where
  pub follows : Follows old l.before
  pub says : LineSays n l.text l.event
  pub decided : IsDecided l.before l.event l.answer l.moves l.after

-- Each line is decided from what the one before it left, and its moves were all written.
abbrev pub AreAnswered : ℕ → Stage → List DecidedLine → Type 0
AreAnswered n old [] = Unit {0}
AreAnswered n old (l ∷ ls) = IsNextLine n old l × HasNoted l.after × AreAnswered (suc n) l.after ls

abbrev pub last_stage : Stage → List DecidedLine → Stage
last_stage old [] = old
last_stage old (l ∷ ls) = last_stage l.after ls

-- These bytes begin with the log as it stood after each of these lines: they hold the moves of all
-- of them.
abbrev pub HoldMovesOf : List DecidedLine → Option Text → Type 0
HoldMovesOf [] bytes = Unit {0}
HoldMovesOf (l ∷ ls) bytes = IsFrontOf (log_of l.after).bytes bytes × HoldMovesOf ls bytes

-- A line that was decided and not answered, since its moves could not all be written.
pub record IsMuted (n : ℕ) (old : Stage) (l : DecidedLine) : Type 0 where
  pub next : IsNextLine n old l
  pub failed : (log_of l.after).failed ≡ true

-- ---- two runs

-- Two runs went on by the same line, with the same answer; where it is an access or a `flush`, over
-- devices that answered alike.
pub record IsAnsweredAlike (l m : DecidedLine) : Type 0 where
  pub event : l.event ≡ m.event
  pub answer : l.answer ≡ m.answer
  pub devices : AnsweredAlike l.event l.moves m.moves

-- Two runs of as many lines, line by line.
abbrev pub RunsAlike : List DecidedLine → List DecidedLine → Type 0
RunsAlike [] [] = Unit {0}
RunsAlike (l ∷ ls) (m ∷ ms) = IsAnsweredAlike l m × RunsAlike ls ms
RunsAlike _ _ = ⊥

-- Two runs went on so from the same stage.
pub record GoesAlike (l m : DecidedLine) : Type 0 where
  pub before : l.before ≡ m.before
  pub alike : IsAnsweredAlike l m

-- ---- failures

-- a call of a device was made that a `fail` line had named
abbrev pub MadeNamed : Stage → Stage → Type 0
MadeNamed (Running s) (Running z) = NamedMade s.paging z.paging ⊎ NamedMade s.files z.files
MadeNamed _ _ = ⊥

-- up to the first line in which such a call was made no answer is `fault` or the status of a failed
-- access
abbrev pub AreFaultless : List DecidedLine → Type 0
AreFaultless [] = Unit {0}
AreFaultless (l ∷ ls) =
    (MadeNamed l.before l.after → ⊥) → ((IsFailure l.answer → ⊥) × AreFaultless ls)
