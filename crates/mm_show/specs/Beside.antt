-- A log that is shown with the files that stand beside it.
-- Profile, "What a log shows".
use Rattle.std.specs.Prelude.{◌≡◌, ◌⊎◌, ℕ, ◌+◌, Bool, List, Option, option_map}
use Rattle.mm_types.specs.{Text, Rose}
use Rattle.mm_io.specs.declared.Source.{Ghosts as SourceGhosts}
use Rattle.mm_log_check.specs.{Shows, IsRefusedLog}
use Rattle.mm_log_walk.specs.{Answers, SaysExactly, FileFailed, FileWasRead, beside}
use Rattle.mm_show.specs.Forms.{asked_word, files_at, files_of, has_answers, has_observations, has_script}
use Rattle.mm_show.specs.Observed.{FileHas, IfGood, observed}
use Rattle.mm_show.specs.Showing.{FileIs, form_said, form_sought, form_why, unread_text}
use Rattle.mm_show.specs.Texts.{whole_page}
use Rattle.mm_show.specs.declared.forms.Form.{Form}
use Rattle.mm_show.specs.declared.pages.PageTexts.{PageTexts}

-- those files, where they could be opened
pub record FilesBeside (F : Type 0) : Type 0 where
  pub script : Option F
  pub answers : Option F
  pub observations : Option F

abbrev pub files_beside_log : {F : Type 0} → Option F → Option F → Option F → FilesBeside F
files_beside_log script answers observations = record {
  script = script;
  answers = answers;
  observations = observations;
}

-- The file of this name, if it is named, failed, and that is told; or memory was refused and
-- nothing is written; or it was read to its end, and then this.
abbrev pub IfRead : {F : Type 0} → SourceGhosts F → Bool → Option F → Option F → Text
    → Option Text → Option Text → ℕ → Type 0 → Type 0
IfRead f named old new name took took' result behind =
    (FileFailed f named old new × Shows took took' (unread_text name) 4 result)
    ⊎ (IsRefusedLog took took' result ⊎ (FileWasRead f named old new × behind))

-- what is said of a log beside a script and its answers, with the packed observations
abbrev pub SaysBeside : Type 1
SaysBeside = Option (List Text) → Option (List Text) → Text → Type 0

-- All files were read: where they are told, this is said. A 4 is for the log.
pub record ShowsLog {F : Type 0} (f : SourceGhosts F) (form : Form) (files : FilesBeside F)
    (says : SaysBeside) (faults faults' : ℕ) (took took' : Option Text) (result : ℕ) : Type 0 where
  pub exact : (s a : Option (List Text)) (o : Option Text)
      → FileIs (has_script (files_of form)) (option_map f.left files.script) s
      → FileIs (has_answers (files_of form)) (option_map f.left files.answers) a
      → FileHas (has_observations (files_of form)) (option_map f.left files.observations) o
      → IfGood (observed s a o) took took' result (says s a)
  pub read_fault : result ≡ 4 → Rose faults faults'

-- The files are read one after another: the script, its answers, the observations.
abbrev pub ShowsForm : {F : Type 0} → SourceGhosts F → Form → List Text → FilesBeside F
    → FilesBeside F → SaysBeside → ℕ → ℕ → Option Text → Option Text → ℕ → Type 0
ShowsForm f form words old new says faults faults' took took' result =
    IfRead f (has_script (files_of form)) old.script new.script
    (asked_word words (files_at form)) took took' result
    (IfRead f (has_answers (files_of form)) old.answers new.answers
    (asked_word words (files_at form + 1)) took took' result
    (IfRead f (has_observations (files_of form)) old.observations new.observations
    (asked_word words (files_at form + 2)) took took' result
    (ShowsLog f form old says faults faults' took took' result)))

-- what a form answers of a log
abbrev pub form_answers : Form → PageTexts → List Text → Option Text → Option Text → Option Text
    → Option Text → ℕ → SaysBeside
form_answers form page words left left' took took' result s a packed =
    Answers left left' took took' (beside s a) (form_sought form)
    (form_said form (whole_page page (asked_word words 1) packed) s a) (form_why form) result

-- and what it says of one whose bytes are told
abbrev pub form_exactly : Form → PageTexts → List Text → Option Text → Option Text → Option Text
    → ℕ → SaysBeside
form_exactly form page words left took took' result s a packed =
    SaysExactly (beside s a) (form_sought form)
    (form_said form (whole_page page (asked_word words 1) packed) s a) (form_why form)
    left took took' result
