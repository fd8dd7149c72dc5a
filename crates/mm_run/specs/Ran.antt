-- What a run did: the promise of `run`, on one page.
-- Profile, "A run".
--
-- It speaks of what stands around a run, before it and after it: the bytes left in the source,
-- those that both sinks took and gave on, and both devices. What is not told of these has no bytes
-- (`None`), and nothing is said of it.
use Rattle.std.specs.Prelude.{◌≡◌, ◌≢◌, ◌⊎◌, ℕ, ◌+◌, ◌<◌, ◌≤◌, List, ◌∷◌, ◌++◌, [], length, Option}
use Rattle.mm_types.specs.{Took, Appended, Rose, Text, spelled, Move}
use Rattle.mm_move_rules.specs.{unstarted, AreMoves, spelled_moves, Replays}
use Rattle.mm_io.specs.{text_of_lines}
use Rattle.mm_world.specs.{Page}
use Rattle.mm_line_moves.specs.{DevicesHold}
use Rattle.mm_run.specs.declared.endings.Ending.{Ending}
use Rattle.mm_run.specs.declared.endings.Ending.TheVariants as ending
use Rattle.mm_run.specs.Scenes.{Stage, NotBegun, Running, outset, replay_of}
use Rattle.mm_run.specs.Answered.{DecidedLine, AreAnswered, HoldMovesOf, last_stage, texts_of, answers_in, moves_of, answered_lines, AreFaultless}
use Rattle.mm_run.specs.Written.{GivesWritten}
use Rattle.mm_run.specs.Texts.{IsFrontWithin, TornText, status_of, last_text, most_kept}
use Rattle.mm_run.specs.Story.{SettlesRun}
use Rattle.mm_script.specs.{most_lines}
use Rattle.mm_run.specs.Ends.{Left, StageLeaves, ClosesRun}

-- What stands around a run.
pub record Around : Type 0 where
  pub left : Option Text  -- the bytes left in the source
  pub took : Option Text  -- those that the sink of answers took
  pub gave : Option Text  -- those of them that it gave on
  pub beside : Left  -- those that the sink of moves took and gave on, and both devices

abbrev pub around : Option Text → Option Text → Option Text → Left → Around
around left took gave beside = record { left = left; took = took; gave = gave; beside = beside }

-- Before its first line.
abbrev pub begun_at : Left → Stage
begun_at x = NotBegun (outset x.paging.faults x.files.faults x.moves x.gave x.moves_faults)

-- Both sinks gave on all that they took.
pub record GaveAll (b : Around) : Type 0 where
  pub answers : b.gave ≡ b.took
  pub moves : b.beside.gave ≡ b.beside.moves

-- The status is the ending's own: all answers and its last text stand, and all was given on; but
-- where a read failed, after which no sink is called, only what the run wrote.
pub record TellsAll (a b : Around) (status : ℕ) (e : Ending) (told kept : List DecidedLine)
    (written : Text) : Type 0 where
  pub status_is : status ≡ status_of e
  pub out_stands : e ≢ ending.OutFault
  pub moves_stand : e ≢ ending.MovesFault
  pub all_told : kept ≡ []
  pub text : written ≡ spelled (answers_in told) ++ last_text e
  pub gave : (e ≡ ending.ReadFault → GaveAll a) → GaveAll b

-- With status 5, as the sink of answers failed, a front of all that stands: what is missing is no
-- longer than the answers that are kept at most and the last text.
pub record TellsFront (status : ℕ) (e : Ending) (told kept : List DecidedLine) (written : Text)
    : Type 0 where
  pub status_is : status ≡ 5
  pub moves_stand : e ≢ ending.MovesFault
  pub all_told : kept ≡ []
  pub text : IsFrontWithin (most_kept + length (last_text e)) written
      (spelled (answers_in told) ++ last_text e)

-- With status 6, as the sink of moves failed, the answers up to the last flush stand, and no last
-- text: all but those that were kept then.
pub record TellsSome (status : ℕ) (e : Ending) (told kept : List DecidedLine) (written : Text)
    : Type 0 where
  pub status_is : status ≡ 6
  pub out_stands : e ≢ ending.OutFault
  pub text : written ≡ spelled (answers_in told)
  pub few : length (spelled (answers_in kept)) ≤ most_kept

abbrev pub EndsTelling : Around → Around → ℕ → Ending → List DecidedLine → List DecidedLine → Text
    → Type 0
EndsTelling a b status e told kept written =
    TellsAll a b status e told kept written
    ⊎ (TellsFront status e told kept written ⊎ TellsSome status e told kept written)

-- The count of faults of a device rose.
abbrev pub SomeRose : Left → Left → Type 0
SomeRose x y = Rose x.paging.faults y.paging.faults ⊎ Rose x.files.faults y.files.faults

-- What the sink of moves took is the text of the moves of the answered lines, one after another,
-- and of `more`: nothing, but the `at` of a line that ran out of memory, or the moves of a line
-- that was decided and could not note them all. Of all these together, which are legal one after
-- another, a front was written: all of it, but in these two cases, and in these too unless the
-- sink's count of faults rose.
pub record LogRan (took took' : Option Text) (faults faults' : ℕ) (moves : List Move) (e : Ending)
    (last end : Stage) : Type 0 where
  pub more : List Move
  pub in_range : AreMoves (moves ++ more)
  pub replays : Replays moves unstarted (replay_of last)
  pub replays_more : Replays more (replay_of last) (replay_of end)
  pub wrote : TornText took took' (spelled_moves (moves ++ more))
  pub none : e ≢ ending.NoMemory → e ≢ ending.MovesFault → more ≡ []
  pub whole : e ≢ ending.NoMemory → e ≢ ending.MovesFault → wrote.back ≡ []
  pub unless : (Rose faults faults' → ⊥) → wrote.back ≡ []

-- Each key that the replay shows unchanged, with a slot or a block, has its bytes there.
abbrev pub EndsHolding : Stage → List Page → List Page → Type 0
EndsHolding (NotBegun o) slots blocks = Unit {0}
EndsHolding (Running s) slots blocks = DevicesHold s.world s.behind.life slots blocks

pub record Ran (a b : Around) (form : Type 0) (status : ℕ) : Type 0 where
  -- The lines that were decided and answered, one after another: each with its text, event, answer
  -- and moves, and what stands after it. Each is in the grammar (`LineSays`), and decided from what
  -- the one before it left (`IsDecided`): its answer and the new world are the definitions' step by
  -- the reports before and after it; its charge is within the limit; its moves are its piece of the
  -- log.
  pub lines : List DecidedLine
  pub answered : AreAnswered 0 (begun_at a.beside) lines
  pub limit : length lines ≤ most_lines
  -- Each `watch` that was answered with pages gave exactly those of its range that are written by
  -- the lines before it and their answers (GetWriteWatch): the lowest ones, at most as many as it
  -- asked for.
  pub watches : (before after : List DecidedLine) (l : DecidedLine) →
      before ++ l ∷ after ≡ lines → GivesWritten (answered_lines before) l.event l.answer
  -- What the run then came to, by the bytes after these lines up to the one that decided it
  -- (`front`); fewer than 4,096 more were taken.
  pub e : Ending
  pub taken : Text
  pub front : Text
  pub more : Text
  pub read : Took a.left b.left taken
  pub whole : taken ≡ text_of_lines (texts_of lines) ++ (front ++ more)
  pub settled : SettlesRun (length lines) front more b.left e
  pub few : length more < 4096
  pub is_form : form → e ≢ ending.Usage
  pub no_form : (form → ⊥) → e ≡ ending.Usage
  -- An answer is given on only after its moves were. The lines that were told, whose moves the sink
  -- of moves has given on, and those that were not, none but with status 6; what the sink of
  -- answers took: the answers of the told ones and the last text of the status.
  pub told : List DecidedLine
  pub kept : List DecidedLine
  pub split : lines ≡ told ++ kept
  pub gave : HoldMovesOf told b.beside.gave
  pub written : Text
  pub wrote : Appended a.took b.took written
  pub ends : EndsTelling a b status e told kept written
  -- What happened after the last answer, and what the end leaves: the log of moves, the devices.
  pub end : Stage
  pub closes : ClosesRun e (length lines) front (last_stage (begun_at a.beside) lines) end
  pub leaves : StageLeaves end b.beside
  pub log : LogRan a.beside.moves b.beside.moves a.beside.moves_faults b.beside.moves_faults
      (moves_of lines) e (last_stage (begun_at a.beside) lines) end
  pub holds : e ≡ ending.Done → EndsHolding end b.beside.paging.blocks b.beside.files.blocks
  -- Unless a device's count of faults rose, an answer tells of a failure only behind a call that a
  -- `fail` line named.
  pub faultless : (SomeRose a.beside b.beside → ⊥) → AreFaultless lines

-- Memory was refused as the words were read or as the room for answers was taken, before anything
-- else: the status is 1, and everything stands as it stood.
pub record IsRefused (a b : Around) (status : ℕ) : Type 0 where
  pub status_is : status ≡ 1
  pub stands : b ≡ a

abbrev pub RanOrRefused : Around → Around → Type 0 → ℕ → Type 0
RanOrRefused a b form status = Ran a b form status ⊎ IsRefused a b status
