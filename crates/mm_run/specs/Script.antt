-- What a script is, and what it comes to by itself.
-- Profile, "Script" and "A run".
use Rattle.std.specs.Prelude.{◌≡◌, ◌⊎◌, ℕ, suc, ◌+◌, ◌≤◌, List, [], ◌∷◌, ◌++◌, length, Some}
use Rattle.mm_types.specs.{Appended, Text, spelled, Event}
use Rattle.mm_io.specs.{text_of_lines}
use Rattle.mm_run.specs.declared.endings.Ending.{Ending}
use Rattle.mm_run.specs.declared.endings.Ending.TheVariants as ending
use Rattle.mm_run.specs.Answered.{LineSays, texts_of, answers_in}
use Rattle.mm_run.specs.Texts.{status_of, last_text}
use Rattle.mm_run.specs.Story.{SettlesRun}
use Rattle.mm_script.specs.{most_lines}
use Rattle.mm_run.specs.Ran.{Around, Ran}

-- After n lines, each line is in the grammar and says this event.
abbrev pub EachSays : ℕ → List Text → List Event → Type 0
EachSays n [] [] = Unit {0}
EachSays n [] (e ∷ es) = ⊥
EachSays n (l ∷ ls) [] = ⊥
EachSays n (l ∷ ls) (e ∷ es) = LineSays n l e × EachSays (suc n) ls es

-- What the script alone can make a run come to.
abbrev pub IsVerdict : Ending → Type 0
IsVerdict ending.Done = Unit {0}
IsVerdict (ending.Script line column) = Unit {0}
IsVerdict (ending.TooLong line) = Unit {0}
IsVerdict _ = ⊥

-- The script is these lines, each in the grammar, and then bytes that make a run come to this.
pub record IsScriptOf (text : Text) (n : ℕ) (lines : List Text) (e : Ending) : Type 0 where
  pub events : List Event
  pub front : Text
  pub more : Text
  pub whole : text ≡ text_of_lines lines ++ (front ++ more)
  pub each : EachSays n lines events
  pub limit : n + length lines ≤ most_lines
  pub settled : SettlesRun (n + length lines) front more (Some []) e
  pub verdict : IsVerdict e

-- Memory or the outside failed.
abbrev pub IsFault : ℕ → Type 0
IsFault status = (status ≡ 1) ⊎ ((status ≡ 4) ⊎ ((status ≡ 5) ⊎ ((status ≡ 6) ⊎ (status ≡ 7))))

-- A run that answered all these lines, came to this with its status, and wrote its whole text.
pub record IsComplete (a b : Around) (form : Type 0) (lines : List Text) (e : Ending) (status : ℕ)
    : Type 0 where
  pub ran : Ran a b form status
  pub came_to : ran.e ≡ e
  pub all : texts_of ran.lines ≡ lines
  pub status_is : status ≡ status_of e
  pub wrote : Appended a.took b.took (spelled (answers_in ran.lines) ++ last_text e)
