-- What the steps of a run ask and promise, once for each family of steps.
-- Profile, "A run".
use Rattle.std.specs.Prelude.{◌≡◌, ◌≢◌, ℕ, ◌+◌, ◌<◌, ◌≤◌, Bool, false, [], length, Option, Result, MatchOption, MatchResult}
use Rattle.mm_types.specs.{Loans, Text, Event}
use Rattle.mm_io.specs.{HasLine}
use Rattle.mm_dispatch.specs.{Scene}
use Rattle.mm_run.specs.declared.endings.Ending.{Ending}
use Rattle.mm_run.specs.declared.endings.Ending.TheVariants as ending
use Rattle.mm_run.specs.Scenes.{Stage, Running, log_of}
use Rattle.mm_run.specs.Steps.{BreaksLine}
use Rattle.mm_run.specs.Ends.{TakesMemory}
use Rattle.mm_run.specs.Story.{Outside, FaultCounts, WentOn, CameToEnd, IsBlamed, outside, stand, fault_counts_with}
use Rattle.mm_script.specs.{most_lines}

-- ---- what stands at one moment

-- A source: the bytes left, where told, its count of faults, and how many of its reads, and of its
-- last one, took no byte.
pub record Input : Type 0 where
  pub left : Option Text
  pub faults : ℕ
  pub idle : ℕ
  pub last_idle : ℕ

-- The sink of answers: the bytes that it took, where told, and its count of faults.
pub record Output : Type 0 where
  pub took : Option Text
  pub faults : ℕ

-- A moment of a run, but for its lines: both of these, the answers that are kept, and the stage.
pub record Moment : Type 0 where
  pub input : Input
  pub output : Output
  pub kept : Text
  pub stage : Stage

abbrev pub moment : Input → Output → Text → Stage → Moment
moment input output kept stage = record {
  input = input;
  output = output;
  kept = kept;
  stage = stage;
}

abbrev pub outside_of : Moment → Outside
outside_of m = outside m.input.left m.output.took m.kept

abbrev pub fault_counts_of : Moment → FaultCounts
fault_counts_of m = fault_counts_with m.input.faults m.output.faults (log_of m.stage).faults

-- A world over a store: whether that is unpaged memory, the scene, how many lines began, whether
-- memory ran out in one of them, and the references that it holds.
pub record WorldSeen : Type 0 where
  pub unpaged : Bool
  pub scene : Scene
  pub line : ℕ
  pub spent : Bool
  pub loans : Loans

-- ---- what is asked

-- This line is in front, with fewer than 4,096 bytes behind it.
pub record HoldsLine (held : Text) (len : ℕ) : Type 0 where
  pub line : HasLine held len
  pub behind : length held < len + 1 + 4096

-- A world over a store that pages has begun n lines, and can take another.
pub record HasBegunLines (n : ℕ) (w : WorldSeen) : Type 0 where
  pub count : w.line ≡ n
  pub ready : w.spent ≡ false
  pub paged : w.unpaged ≡ false

-- It has noted all moves of these lines.
pub record HasNotedAll (n : ℕ) (w : WorldSeen) : Type 0 where
  pub begun : HasBegunLines n w
  pub noted : w.scene.behind.log.failed ≡ false

-- So it stands between two lines: of the bytes taken fewer than 4,096 are not used yet.
pub record IsBetween (n : ℕ) (held : Text) (w : WorldSeen) : Type 0 where
  pub few : length held < 4096
  pub ready : HasNotedAll n w

-- ---- what is promised

-- Nothing is held back: no answer is kept, and both sinks gave on all that they took.
pub record IsStill (kept : Text) (gave took moves_gave moves_took : Option Text) : Type 0 where
  pub none : kept ≡ []
  pub answers : gave ≡ took
  pub moves : moves_gave ≡ moves_took

-- Of a world only its log of moves may be another, and it has failed where it had.
pub record KeepsWorld (v w : WorldSeen) : Type 0 where
  pub count : w.line ≡ v.line
  pub ready : w.spent ≡ v.spent
  pub noted : w.scene.behind.log.failed ≡ v.scene.behind.log.failed
  pub loans : w.loans ≡ v.loans

-- Memory ran out in a line that may take some.
pub record RunsShort (s : Scene) (event : Event) (z : Scene) : Type 0 where
  pub breaks : BreaksLine s event z
  pub takes : TakesMemory (Running s) event

-- From n lines on, with these bytes held, a run has come to where more lines are decided, and other
-- bytes held: no count of faults is another, and a read that took no byte was not the last.
pub record GoesOn (held : Text) (n : ℕ) (held' : Text) (n' : ℕ) (a b : Moment) : Type 0 where
  pub went : WentOn (outside_of a) (outside_of b) (stand held n a.stage) (stand held' n' b.stage)
  pub faults : fault_counts_of b ≡ fault_counts_of a
  pub idle : b.input.idle ≤ a.input.idle

-- From there it has come to its end: no count of faults is another that this end is not to blame
-- on, and only the last read may have taken no byte.
pub record EndsRun (held : Text) (n : ℕ) (a b : Moment) (e : Ending) : Type 0 where
  pub came : CameToEnd (outside_of a) (outside_of b) (stand held n a.stage) e b.stage
  pub faults : IsBlamed e ⊥ (fault_counts_of a) (fault_counts_of b)
  pub idle : b.input.idle ≤ a.input.idle + b.input.last_idle
  pub form : e ≢ ending.Usage

-- A step goes on, or ends the run.
abbrev pub GoesOnOrEnds : Option Ending → Text → ℕ → Text → ℕ → Moment → Moment → Type 0
GoesOnOrEnds r held n held' n' a b = MatchOption r (GoesOn held n held' n' a b) (EndsRun held n a b)

-- It finds a line in front, or ends the run.
abbrev pub FindsLine : Result ℕ Ending → Text → ℕ → Text → Moment → Moment → Type 0
FindsLine r held n held' a b = MatchResult r (λ _. GoesOn held n held' n a b) (EndsRun held n a b)

-- A step that reads nothing and decides nothing goes on or ends the run, after however many lines
-- and whatever was read.
abbrev pub StepsBetween : Option Ending → Output → Output → Text → Text → Stage → Stage → Type 0
StepsBetween r out out' kept kept' s z =
    (input : Input) (held : Text) (n : ℕ) → n ≤ most_lines → length held < 4096 →
    GoesOnOrEnds r held n held n (moment input out kept s) (moment input out' kept' z)
