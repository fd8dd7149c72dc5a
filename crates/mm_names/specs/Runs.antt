-- What a run of the translator does.
-- docs/WRITTEN.md
use Rattle.std.specs.Prelude.{◌≡◌, ◌⊎◌, ℕ, ◌≤◌, ◌<◌, List, [], ◌∷◌, ◌++◌, length, Option, Some, None, codes}
use Rattle.std.specs.List.{AllByRecursion}
use Rattle.mm_types.specs.{Text, Took, IsEnd, Appended, Event}
use Rattle.mm_script.specs.{IsWellFormed}
use Rattle.mm_names.specs.declared.endings.Ending.{Ending}
use Rattle.mm_names.specs.declared.endings.Ending.TheVariants as ending
use Rattle.mm_names.specs.Scripts.{script_in, spelled_events, IsScript}
use Rattle.mm_script.specs.{most_lines}

-- the most bytes of a written file
abbrev pub most_bytes : ℕ
most_bytes = 100000000

-- The source gave this text, to its end.
pub record WasReadWhole (left left' : Option Text) (text : Text) : Type 0 where
  pub took : Took left left' text
  pub at_end : IsEnd left'

-- The file means a script, whose lines were written: the first is a `machine` and no other is, each
-- is in the grammar, and there are no more than a script may have.
pub record IsWritten (left left' took took' : Option Text) : Type 0 where
  pub text : Text
  pub was_read : WasReadWhole left left' text
  pub events : List Event
  pub script : script_in text ≡ Some events
  pub opens : IsScript events
  pub formed : AllByRecursion IsWellFormed events
  pub few : length events ≤ most_lines
  pub written : Appended took took' (spelled_events events)

-- A line of the file means nothing that may stand there, or none means an event; nothing was
-- written.
pub record IsRefusedFile (left left' took took' : Option Text) : Type 0 where
  pub text : Text
  pub was_read : WasReadWhole left left' text
  pub none : script_in text ≡ None
  pub nothing : took' ≡ took

-- The file means a script of more lines than a script may have.
pub record IsManyLines (left left' : Option Text) : Type 0 where
  pub text : Text
  pub was_read : WasReadWhole left left' text
  pub events : List Event
  pub script : script_in text ≡ Some events
  pub many : most_lines < length events

-- More bytes than a written file may have were read.
pub record IsManyBytes (left left' : Option Text) : Type 0 where
  pub text : Text
  pub took : Took left left' text
  pub many : most_bytes < length text

-- The file is longer than it may be, or the script that it means.
abbrev pub IsTooLong : (left left' : Option Text) → Type 0
IsTooLong left left' = IsManyBytes left left' ⊎ IsManyLines left left'

-- what a script spells; nothing where a file means none
abbrev pub spelled_script : Option (List Event) → Text
spelled_script None = []
spelled_script (Some events) = spelled_events events

-- A front of the script that the file means was written, or nothing.
pub record IsTorn (left left' took took' : Option Text) : Type 0 where
  pub text : Text
  pub was_read : WasReadWhole left left' text
  pub front : Text
  pub behind : Text
  pub whole : front ++ behind ≡ spelled_script (script_in text)
  pub written : Appended took took' front

-- what each ending says
abbrev pub CameTo : Ending → (left left' took took' : Option Text) → Type 0
CameTo ending.Written left left' took took' = IsWritten left left' took took'
CameTo ending.Refused left left' took took' = IsRefusedFile left left' took took'
CameTo ending.TooLong left left' took took' = IsTooLong left left' × (took' ≡ took)
CameTo ending.NoMemory left left' took took' = took' ≡ took
CameTo ending.ReadFault left left' took took' = took' ≡ took
CameTo ending.OutFault left left' took took' =
    IsTorn left left' took took' ⊎ (IsTooLong left left' × (took' ≡ took))
CameTo ending.Usage left left' took took' = (left' ≡ left) × (took' ≡ took)

abbrev pub names_status : Ending → ℕ
names_status ending.Written = 0
names_status ending.NoMemory = 1
names_status ending.Usage = 2
names_status ending.Refused = 3
names_status ending.ReadFault = 4
names_status ending.OutFault = 5
names_status ending.TooLong = 8
