-- `bulk SEED COUNT`: what a run of a generated script did, on one page.
-- Profile, "A run".
--
-- Its events are those of mm_generate. Each is decided as a line of a script would be, the first of
-- them as line 1; none has a text, so what a decided line has as its text says nothing here, and
-- the source is not asked. No answer is printed: four lines are, over all of them.
use Rattle.std.specs.Prelude.{◌≡◌, ◌≢◌, ◌⊎◌, ℕ, ◌<◌, ◌≤◌, ◌^◌, Bool, true, false, List, [], ◌∷◌, ◌++◌, length, map, take, codes, bytes_eq, count_by, Option, Some, None, option_and_then, nat_lt, if◌then◌else◌, String, string_bytes}
use Rattle.std.specs.declared.alloc.Global.{Global}
use Rattle.mm_types.specs.{Appended, Text, decimal, answer_text, Answer, Event}
use Rattle.mm_types.specs.declared.answers.Answer.TheVariants as answer
use Rattle.mm_text.specs.{digits_in}
use Rattle.mm_world.specs.{charge, limit}
use Rattle.mm_run.specs.declared.endings.Ending.{Ending}
use Rattle.mm_run.specs.declared.endings.Ending.TheVariants as ending
use Rattle.mm_run.specs.Scenes.{Stage, NotBegun, Running, Follows, HasNoted, log_of}
use Rattle.mm_run.specs.Steps.{IsDecided}
use Rattle.mm_run.specs.Answered.{DecidedLine, last_stage, answers_in, moves_of, AreFaultless}
use Rattle.mm_run.specs.Texts.{IsFront, status_of}
use Rattle.mm_run.specs.Ends.{BreaksOff, StageLeaves, TakesMemory}
use Rattle.mm_run.specs.Ran.{Around, GaveAll, IsRefused, LogRan, EndsHolding, SomeRose, begun_at}

-- ---- the words

abbrev pub below_64 : ℕ → Option ℕ
below_64 n = if nat_lt n (2 ^ 64) then Some n else None

-- the number below 2 ^ 64 that a word is, of 1 to `most` decimal digits
abbrev pub word_value : ℕ → Text → Option ℕ
word_value most word = option_and_then below_64 (digits_in 10 most word)

-- The words are the form `bulk` with this seed, of 1 to 20 decimal digits, and this count, of 1 to
-- 6.
pub record IsBulk (words : List (String Global)) (seed count : ℕ) : Type 0 where
  pub first : Text
  pub second : Text
  pub words_are : map string_bytes words ≡ codes "bulk" ∷ first ∷ second ∷ []
  pub seed_is : word_value 20 first ≡ Some seed
  pub count_is : word_value 6 second ≡ Some count
  pub count_fits : count ≤ 100000

abbrev pub IsNoBulk : List (String Global) → Type 0
IsNoBulk words = (seed count : ℕ) → IsBulk words seed count → ⊥

-- ---- the events

abbrev pub events_in : List DecidedLine → List Event
events_in lines = map (λ l. l.event) lines

-- An event is decided at this stage as a line would be.
pub record IsEventNext (old : Stage) (l : DecidedLine) : Type 0 where
  pub follows : Follows old l.before
  pub decided : IsDecided l.before l.event l.answer l.moves l.after

-- Each is decided from what the one before it left, and its moves were all written.
abbrev pub AreDecided : Stage → List DecidedLine → Type 0
AreDecided old [] = Unit {0}
AreDecided old (l ∷ ls) = IsEventNext old l × HasNoted l.after × AreDecided l.after ls

-- The event after these was decided, and its moves could not all be written.
pub record MutesEvent (last end : Stage) : Type 0 where
  pub line : DecidedLine
  pub next : IsEventNext last line
  pub failed : (log_of end).failed ≡ true
  pub after : end ≡ line.after

-- It is the first of those that are left.
abbrev pub HeadIsMuted : List Event → Stage → Stage → Type 0
HeadIsMuted left last end = Follows last end ⊎
    ((m : MutesEvent last end) × ((rest : List Event) × (left ≡ m.line.event ∷ rest)))

-- An event ran out of memory, which may take some in the world that there is. It is the first of
-- those that are left.
pub record WantsEvent (left : List Event) (last end : Stage) : Type 0 where
  pub event : Event
  pub rest : List Event
  pub head : left ≡ event ∷ rest
  pub takes : TakesMemory last event
  pub breaks : BreaksOff event last end

-- Or there is no machine yet, whose making takes memory.
abbrev pub HeadWantsMemory : List Event → Stage → Stage → Type 0
HeadWantsMemory left (NotBegun o) end = Follows (NotBegun o) end
HeadWantsMemory left (Running s) end = WantsEvent left (Running s) end

-- After the last event nothing happened, but that one ran out of memory, or could not note all its
-- moves.
abbrev pub ClosesEvents : Ending → Stage → Stage → Type 0
ClosesEvents ending.NoMemory last end = Follows last end ⊎
    ((e : Event) × BreaksOff e last end)
ClosesEvents ending.MovesFault last end = Follows last end ⊎ MutesEvent last end
ClosesEvents _ last end = Follows last end

-- All events were decided; or some are left, since memory ran out, or since the moves were not all
-- written or a device was not opened.
abbrev pub BulkStops : Ending → List Event → Type 0
BulkStops ending.Done left = left ≡ []
BulkStops ending.NoMemory left = 0 < length left
BulkStops ending.MovesFault left = 0 < length left
BulkStops ending.SetupFault left = 0 < length left
BulkStops _ left = ⊥

-- ---- the four lines

-- the text of an answer begins with `ok`
abbrev pub begins_ok : Answer → Bool
begins_ok a = bytes_eq (take 2 (answer_text a)) (codes "ok")

abbrev pub is_no_answer : Answer → Bool
is_no_answer answer.Nothing = true
is_no_answer _ = false

abbrev pub charge_of_stage : Stage → ℕ
charge_of_stage (NotBegun o) = 0
charge_of_stage (Running s) = charge s.world

abbrev pub limit_at : Stage → ℕ
limit_at (NotBegun o) = 0
limit_at (Running s) = limit s.world

abbrev pub four_lines : ℕ → ℕ → ℕ → ℕ → ℕ → Text
four_lines lines ok none charge limit =
    codes "lines " ++ (decimal lines ++ (codes "\nok " ++ (decimal ok ++ (codes "\nnone "
    ++ (decimal none ++ (codes "\ncharge " ++ (decimal charge
    ++ (codes " " ++ (decimal limit ++ 10 ∷ [])))))))))

-- over some answers, and the world that they leave
abbrev pub bulk_text : List Answer → Stage → Text
bulk_text answers end =
    four_lines (length answers) (count_by begins_ok answers) (count_by is_no_answer answers)
    (charge_of_stage end) (limit_at end)

-- Where all events were decided and all moves given on, the four lines stand whole, with status 0,
-- and are given on, or a front of them stands, with status 5; or the moves could not be given on:
-- status 6. Then nothing stands, nor where not all were decided.
abbrev pub BulkEnds : Around → ℕ → Ending → Text → Text → Type 0
BulkEnds b status e text written =
    ((status ≡ 0) × (e ≡ ending.Done) × (written ≡ text) × GaveAll b)
    ⊎ (((status ≡ 5) × (e ≡ ending.Done) × IsFront written text × (b.beside.gave ≡ b.beside.moves))
    ⊎ (((status ≡ 6) ⊎ ((status ≡ status_of e) × (e ≢ ending.Done))) × (written ≡ [])))

-- ---- the run

pub record BulkRan (a b : Around) (events : List Event) (status : ℕ) : Type 0 where
  -- The events that were decided, one after another, and those that are left.
  pub lines : List DecidedLine
  pub left : List Event
  pub events_are : events ≡ events_in lines ++ left
  pub decided : AreDecided (begun_at a.beside) lines
  -- What it came to, and what was written.
  pub e : Ending
  pub stops : BulkStops e left
  pub end : Stage
  pub written : Text
  pub wrote : Appended a.took b.took written
  pub ends : BulkEnds b status e (bulk_text (answers_in lines) end) written
  -- What happened after the last event, and what the end leaves, as `Ran` has it.
  pub closes : ClosesEvents e (last_stage (begun_at a.beside) lines) end
  pub muted : e ≡ ending.MovesFault → HeadIsMuted left (last_stage (begun_at a.beside) lines) end
  pub wants : e ≡ ending.NoMemory → HeadWantsMemory left (last_stage (begun_at a.beside) lines) end
  pub leaves : StageLeaves end b.beside
  pub log : LogRan a.beside.moves b.beside.moves a.beside.moves_faults b.beside.moves_faults
      (moves_of lines) e (last_stage (begun_at a.beside) lines) end
  pub holds : e ≡ ending.Done → EndsHolding end b.beside.paging.blocks b.beside.files.blocks
  pub faultless : (SomeRose a.beside b.beside → ⊥) → AreFaultless lines

abbrev pub BulkRanOrRefused : Around → Around → List Event → ℕ → Type 0
BulkRanOrRefused a b events status = BulkRan a b events status ⊎ IsRefused a b status
