-- The forms of the program's words, and what each does.
-- docs/WRITTEN.md
use Rattle.std.specs.Prelude.{◌≡◌, ◌⊎◌, ℕ, List, [], ◌∷◌, bytes_eq, if◌then◌else◌, Option, Some, None, codes}
use Rattle.mm_types.specs.{Text, Rose}
use Rattle.mm_io.specs.declared.Sink.{Ghosts as SinkGhosts}
use Rattle.mm_names.specs.{Ending, CameTo, names_status}
use Rattle.mm_names.specs.declared.endings.Ending.TheVariants as ending
use Rattle.mm_reasons.specs.Talks.{Talked}
use Rattle.mm_reasons.specs.declared.forms.Form.{Form}
use Rattle.mm_reasons.specs.declared.forms.Form.TheVariants as form
use Rattle.mm_io.specs.{SinkSeen}

abbrev pub form_named : Text → Option Form
form_named word =
    if bytes_eq word (codes "lines") then Some form.Lines
    else if bytes_eq word (codes "talk") then Some form.Talk
    else None

-- no word, `lines` or `talk`
abbrev pub names_form : List Text → Option Form
names_form [] = Some form.Script
names_form (word ∷ []) = form_named word
names_form (word ∷ other ∷ words) = None

-- A write is blamed where the count of faults of one of two sinks rose; no read is.
abbrev pub WriteBlamed : Ending → (out out' err err' : ℕ) → Type 0
WriteBlamed ending.OutFault out out' err err' = Rose out out' ⊎ Rose err err'
WriteBlamed ending.ReadFault out out' err err' = ⊥
WriteBlamed _ out out' err err' = Unit {0}

-- and a read where that of the source did
abbrev pub Blamed : Ending → (left left' out out' err err' : ℕ) → Type 0
Blamed ending.ReadFault left left' out out' err err' = Rose left left'
Blamed ending.OutFault left left' out out' err err' = Rose out out' ⊎ Rose err err'
Blamed _ left left' out out' err err' = Unit {0}

-- How a run ends: its status, and what was read and written.
pub record NamesRan (left left' took took' : Option Text) (status : ℕ) : Type 0 where
  pub ending : Ending
  pub status_is : status ≡ names_status ending
  pub came : CameTo ending left left' took took'

pub record RanTalk (left left' took took' : Option Text) (status : ℕ) : Type 0 where
  pub ending : Ending
  pub status_is : status ≡ names_status ending
  pub talked : Talked ending left left' took took'

-- words that are no form are told of, or memory was refused; nothing is read or written
abbrev pub IsNoForm : (left left' took took' : Option Text) → ℕ → Type 0
IsNoForm left left' took took' status =
    (left' ≡ left) × (took' ≡ took) × ((status ≡ 2) ⊎ (status ≡ 1))

-- what a run in this form does
abbrev pub RanAs : Option Form → (left left' took took' : Option Text) → ℕ → Type 0
RanAs None left left' took took' status = IsNoForm left left' took took' status
RanAs (Some form.Talk) left left' took took' status = RanTalk left left' took took' status
RanAs (Some _) left left' took took' status = NamesRan left left' took took' status

-- ---- sinks that did not fail

-- A sink goes on well: its count of faults is as it was, and where it held nothing back it holds
-- nothing back.
pub record GoesWell (a b : SinkSeen) : Type 0 where
  pub same : b.faults ≡ a.faults
  pub gave : a.gave ≡ a.took → b.gave ≡ b.took
