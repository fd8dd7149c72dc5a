-- Where a run of a generated script stands, between its events.
-- Profile, "A run".
use Rattle.std.specs.Prelude.{◌≡◌, ◌⊎◌, ◌<◌, ℕ, true, false, List, ◌++◌, length, count_by, Result, Ok, Err, MatchResult}
use Rattle.std.specs.List.{AllByRecursion}
use Rattle.mm_types.specs.{Answer, Event}
use Rattle.mm_script.specs.{IsWellFormed}
use Rattle.mm_run.specs.declared.bulk.Tally.{Tally}
use Rattle.mm_run.specs.declared.endings.Ending.{Ending}
use Rattle.mm_run.specs.declared.endings.Ending.TheVariants as ending
use Rattle.mm_dispatch.specs.{Scene}
use Rattle.mm_script.specs.{is_machine}
use Rattle.mm_run.specs.Scenes.{Stage, Running}
use Rattle.mm_run.specs.Steps.{Moved}
use Rattle.mm_run.specs.Moments.{RunsShort}
use Rattle.mm_run.specs.Answered.{DecidedLine, last_stage, answers_in}
use Rattle.mm_run.specs.Ends.{Left, StageLeaves}
use Rattle.mm_run.specs.Faults.{OpenFailed}
use Rattle.mm_run.specs.Ran.{begun_at}
use Rattle.mm_run.specs.Story.{IsBlamed, fault_counts_with}
use Rattle.mm_run.specs.Bulk.{AreDecided, ClosesEvents, HeadIsMuted, HeadWantsMemory, BulkStops, events_in, begins_ok, is_no_answer, charge_of_stage, limit_at}

-- An event which does not make a machine.
pub record IsLaterEvent (event : Event) : Type 0 where
  pub well_formed : IsWellFormed event
  pub later : is_machine event ≡ false

abbrev pub AreLater : List Event → Type 0
AreLater events = AllByRecursion IsLaterEvent events

-- An event ran out of memory, or was decided and could not note all its moves.
abbrev pub IsUnanswered : Scene → Event → Ending → Scene → Type 0
IsUnanswered s event e z =
    ((e ≡ ending.NoMemory) × RunsShort s event z)
    ⊎ ((e ≡ ending.MovesFault)
    × ((a : Answer) × Moved (Running s) event a (Running z))
    × (z.behind.log.failed ≡ true))

-- Of the counts of faults only that of the moves, here before and after, may be another, and only
-- where the end is to blame on it or on the opening.
abbrev pub AccountsMoves : {A : Type 0} → Result A Ending → Type 0 → ℕ → ℕ → Type 0
AccountsMoves r opening moves moves' = (source out : ℕ) → MatchResult r
    (λ _. fault_counts_with source out moves' ≡ fault_counts_with source out moves)
    (λ e. IsBlamed e opening (fault_counts_with source out moves)
    (fault_counts_with source out moves'))

-- These events were decided, and so many of their answers begin with `ok`, so many are `none`.
pub record Handled (old : Stage) (events : List Event) (ok none : ℕ) (end : Stage) : Type 0 where
  pub lines : List DecidedLine
  pub events_are : events_in lines ≡ events
  pub decided : AreDecided old lines
  pub ok_is : ok ≡ count_by begins_ok (answers_in lines)
  pub none_is : none ≡ count_by is_no_answer (answers_in lines)
  pub end_is : end ≡ last_stage old lines

-- Some of these events were decided, and the next was not.
pub record Stopped (old : Stage) (events : List Event) (e : Ending) (end : Stage) : Type 0 where
  pub lines : List DecidedLine
  pub left : List Event
  pub events_are : events ≡ events_in lines ++ left
  pub decided : AreDecided old lines
  pub stops : BulkStops e left
  pub some : 0 < length left
  pub closes : ClosesEvents e (last_stage old lines) end
  pub muted : e ≡ ending.MovesFault → HeadIsMuted left (last_stage old lines) end
  pub wants : e ≡ ending.NoMemory → HeadWantsMemory left (last_stage old lines) end

-- All events were decided, and these are the four lines' numbers.
pub record Tallied (old : Stage) (events : List Event) (t : Tally) (end : Stage) : Type 0 where
  pub handled : Handled old events t.ok t.none end
  pub lines : t.lines ≡ length events
  pub charge : t.charge ≡ charge_of_stage end
  pub limit : t.limit ≡ limit_at end

abbrev pub Finished : Stage → List Event → Result Tally Ending → Stage → Type 0
Finished old events (Ok t) end = Tallied old events t end
Finished old events (Err e) end = Stopped old events e end

-- The same, with what is left on devices and in the log of moves.
pub record BatchRan (old : Stage) (events : List Event) (r : Result Tally Ending) (left : Left)
    : Type 0 where
  pub end : Stage
  pub finished : Finished old events r end
  pub leaves : StageLeaves end left

-- The same from before the first of them on, with what is to blame.
pub record BatchEnds (events : List Event) (r : Result Tally Ending) (a b : Left) : Type 0 where
  pub came : BatchRan (begun_at a) events r b
  pub faults : AccountsMoves r (OpenFailed a.paging b.paging a.files b.files)
      a.moves_faults b.moves_faults
