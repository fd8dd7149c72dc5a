-- What stands at each moment of a run, and what makes it end.
-- Profile, "A run".
use Rattle.std.specs.Prelude.{◌≡◌, ◌⊎◌, ℕ, ◌+◌, ◌<◌, ◌≤◌, List, [], ◌∷◌, ◌++◌, length, Option, Ok, Err, map, codes, String, string_bytes, true, nat_lt}
use Rattle.mm_move_rules.specs.{IsFrontOf}
use Rattle.std.specs.declared.alloc.Global.{Global}
use Rattle.mm_types.specs.{Took, IsEnd, Appended, Rose, Text, spelled, Event}
use Rattle.mm_io.specs.{FitsLine, NoFeed, with_line_feed, text_of_lines}
use Rattle.mm_script.specs.{IsLine as IsLineFor}
use Rattle.mm_run.specs.declared.endings.Ending.{Ending}
use Rattle.mm_run.specs.declared.endings.Ending.TheVariants as ending
use Rattle.mm_script.specs.{is_machine}
use Rattle.mm_run.specs.Reading.{reading_of}
use Rattle.mm_run.specs.Scenes.{Stage, Follows, log_of}
use Rattle.mm_run.specs.Answered.{DecidedLine, AreAnswered, HoldMovesOf, last_stage, texts_of, answers_in}
use Rattle.mm_run.specs.Texts.{IsFrontWithin, most_kept}
use Rattle.mm_run.specs.Ends.{Left, StageLeaves, ClosesRun}
use Rattle.mm_script.specs.{most_lines}

-- What stands around the lines: the bytes left in the source and those that the sink of answers
-- took, where told, and the answers that are kept for it.
pub record Outside : Type 0 where
  pub left : Option Text
  pub took : Option Text
  pub kept : Text

-- Where a run stands: the bytes that were taken and not used yet, how many lines were decided, and
-- its stage.
pub record RunStand : Type 0 where
  pub held : Text
  pub n : ℕ
  pub stage : Stage

abbrev pub outside : Option Text → Option Text → Text → Outside
outside left took kept = record { left = left; took = took; kept = kept }

abbrev pub stand : Text → ℕ → Stage → RunStand
stand held n stage = record { held = held; n = n; stage = stage }

-- A `machine` line that is not the first, or another line that is.
abbrev pub IsMisplaced : ℕ → Event → Type 0
IsMisplaced n e = is_machine e ≡ nat_lt 0 n

-- A whole line after n others that is not in the grammar, with its fault at this column.
pub record IsBad (n : ℕ) (front : Text) (column : ℕ) : Type 0 where
  pub line : Text
  pub is_line : FitsLine line
  pub whole : front ≡ with_line_feed line
  pub place : reading_of n line ≡ Err column
  pub refused : (e : Event) → IsLineFor line e → IsMisplaced n e

-- A last line without a line feed, or no line at all.
pub record IsOpen (n : ℕ) (front more : Text) (left : Option Text) (column : ℕ) : Type 0 where
  pub is_line : FitsLine front
  pub last : more ≡ []
  pub at_end : IsEnd left
  pub some : (0 < length front) ⊎ (n ≡ 0)
  pub place : column ≡ length front + 1

-- The first line, a `machine` line.
pub record IsMachineLine (n : ℕ) (front : Text) : Type 0 where
  pub first : n ≡ 0
  pub line : Text
  pub event : Event
  pub whole : front ≡ with_line_feed line
  pub says : reading_of 0 line ≡ Ok event
  pub machine : is_machine event ≡ true

-- After n decided lines these bytes, and none before the last of them, make a run come to this.
-- More were taken after them, and others are left.
abbrev pub SettlesRun : ℕ → Text → Text → Option Text → Ending → Type 0
SettlesRun n front more left ending.Done = (0 < n) × (front ≡ []) × (more ≡ []) × IsEnd left
SettlesRun n front more left ending.NoMemory = length front ≤ 257
SettlesRun n front more left ending.Usage = (n ≡ 0) × (front ≡ []) × (more ≡ [])
SettlesRun n front more left (ending.Script line column) =
    (line ≡ n + 1) × (n < most_lines) × (IsBad n front column ⊎ IsOpen n front more left column)
SettlesRun n front more left ending.ReadFault = FitsLine front × (more ≡ [])
SettlesRun n front more left ending.OutFault = front ≡ []
SettlesRun n front more left ending.MovesFault = length front ≤ 257
SettlesRun n front more left ending.SetupFault = IsMachineLine n front
SettlesRun n front more left (ending.TooLong line) =
    (line ≡ n + 1)
    × (((length front ≡ 257) × NoFeed front) ⊎ ((n ≡ most_lines) × (length front ≡ 1)))

-- This text is the answers of these lines, kept until the moves of all of them are given on; the
-- log has taken these.
pub record KeepsAnswers (lines : List DecidedLine) (text : Text) (s : Stage) : Type 0 where
  pub text_is : text ≡ spelled (answers_in lines)
  pub noted : HoldMovesOf lines (log_of s).bytes

-- So many more lines were read, decided and answered. Of those that were kept before and of these,
-- the first were told: their moves were given on, and then their answers. The others are kept.
pub record WentFrom (kept : List DecidedLine) (a b : Outside) (x y : RunStand) : Type 0 where
  pub lines : List DecidedLine
  pub taken : Text
  pub read : Took a.left b.left taken
  pub whole : x.held ++ taken ≡ text_of_lines (texts_of lines) ++ y.held
  pub answered : AreAnswered x.n x.stage lines
  pub stage : Follows (last_stage x.stage lines) y.stage
  pub count : y.n ≡ x.n + length lines
  pub told : List DecidedLine
  pub still : List DecidedLine
  pub split : kept ++ lines ≡ told ++ still
  pub wrote : Appended a.took b.took (spelled (answers_in told))
  pub gave : HoldMovesOf told (log_of y.stage).given
  pub keeps : KeepsAnswers still b.kept y.stage
  pub grows : IsFrontOf (log_of x.stage).given (log_of y.stage).given

abbrev pub WentOn : Outside → Outside → RunStand → RunStand → Type 0
WentOn a b x y = (kept : List DecidedLine) → KeepsAnswers kept a.kept x.stage →
    WentFrom kept a b x y

-- The lines that were decided and answered, what the run then came to, and at which stage it ended.
-- Fewer than 4,096 bytes were taken after the byte that decided it.
pub record RunDecided (left left' : Option Text) (x : RunStand) (e : Ending) (end : Stage) : Type 0
  where
    pub lines : List DecidedLine
    pub taken : Text
    pub front : Text
    pub more : Text
    pub read : Took left left' taken
    pub whole : x.held ++ taken ≡ text_of_lines (texts_of lines) ++ (front ++ more)
    pub answered : AreAnswered x.n x.stage lines
    pub limit : x.n + length lines ≤ most_lines
    pub settled : SettlesRun (x.n + length lines) front more left' e
    pub few : length more < 4096
    pub closes : ClosesRun e (x.n + length lines) front (last_stage x.stage lines) end

-- What stands on the sink of answers once a run has come to this, before the last text: the answers
-- of the told lines, or where a call of the sink failed, a front of them, up to the last that were
-- kept together, and then none is kept.
abbrev pub StandsAt : Ending → List DecidedLine → List DecidedLine → Text → Type 0
StandsAt ending.OutFault told still written =
    (still ≡ []) × IsFrontWithin most_kept written (spelled (answers_in told))
StandsAt _ told still written = written ≡ spelled (answers_in told)

-- The same, with the answers that were told and those that are kept.
pub record CameFrom (kept : List DecidedLine) (a b : Outside) (x : RunStand) (e : Ending)
    (end : Stage)
    : Type 0 where
  pub decided : RunDecided a.left b.left x e end
  pub told : List DecidedLine
  pub still : List DecidedLine
  pub split : kept ++ decided.lines ≡ told ++ still
  pub written : Text
  pub wrote : Appended a.took b.took written
  pub stands : StandsAt e told still written
  pub gave : HoldMovesOf told (log_of end).given
  pub keeps : KeepsAnswers still b.kept end
  pub grows : IsFrontOf (log_of x.stage).given (log_of end).given

abbrev pub CameToEnd : Outside → Outside → RunStand → Ending → Stage → Type 0
CameToEnd a b x e end =
    (kept : List DecidedLine) → KeepsAnswers kept a.kept x.stage → CameFrom kept a b x e end

-- The same, with what is left on devices and in the log of moves.
pub record Comes (a b : Outside) (x : RunStand) (e : Ending) (left : Left) : Type 0 where
  pub end : Stage
  pub came : CameToEnd a b x e end
  pub leaves : StageLeaves end left

-- The counts of faults before and after, of the source and of both sinks.
pub record FaultCounts : Type 0 where
  pub source : ℕ
  pub out : ℕ
  pub moves : ℕ

abbrev pub fault_counts_with : ℕ → ℕ → ℕ → FaultCounts
fault_counts_with source out moves = record { source = source; out = out; moves = moves }

-- The faults that an ending is to blame on: of the source, of a sink, of a device that was opened.
-- No other count is another than before, but that of the moves where a line ran out of memory,
-- whose `at` may not have been written.
abbrev pub IsBlamed : Ending → Type 0 → FaultCounts → FaultCounts → Type 0
IsBlamed ending.ReadFault opening c d =
    Rose c.source d.source × (d ≡ record c { source = d.source })
IsBlamed ending.OutFault opening c d = Rose c.out d.out × (d ≡ record c { out = d.out })
IsBlamed ending.MovesFault opening c d = Rose c.moves d.moves × (d ≡ record c { moves = d.moves })
IsBlamed ending.NoMemory opening c d = (c.moves ≤ d.moves) × (d ≡ record c { moves = d.moves })
IsBlamed ending.SetupFault opening c d = opening × (d ≡ c)
IsBlamed _ opening c d = d ≡ c

-- What the input's end is, after n lines and so many bytes.
abbrev pub InputEndsAt : ℕ → ℕ → Ending → Type 0
InputEndsAt n len e =
    ((0 < n) × (len ≡ 0) × (e ≡ ending.Done))
    ⊎ (((0 < len) ⊎ (n ≡ 0)) × (e ≡ ending.Script (n + 1) (len + 1)))

-- These words are the form `run`.
abbrev pub IsRunForm : List (String Global) → Type 0
IsRunForm words = map string_bytes words ≡ codes "run" ∷ []
