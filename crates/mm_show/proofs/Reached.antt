-- How far a form came with the files beside a log.
use Rattle.std.proofs.Common.{◌≡◌, ◌≢◌, ◌+◌, ℕ, Bool, List, Option, sym, subst, inl, inr}
use Rattle.std.specs.Prelude.{Result, Err, option_map}
use Rattle.mm_types.specs.{Text, Rose}
use Rattle.mm_io.specs.declared.Source.{Ghosts as SourceGhosts}
use Rattle.mm_log_check.specs.{Shows}
use Rattle.mm_log_walk.proofs.{says_exactly}
use Rattle.mm_log_walk.specs.{FileFailed, FileWasRead, beside}
use Rattle.mm_show.specs.{Form, PageTexts, asked_word, files_at, files_of, has_script, has_answers, has_observations, form_said, form_sought, form_why, whole_page, unread_text}
use Rattle.mm_show.specs.{FileHas, FileIs, FilesBeside, IfGood, IfRead, IsRefusedRow, IsUnread, SaysBeside, ShowsForm, ShowsLog, form_answers, form_exactly, observed}
use Rattle.mm_show.proofs.Exactness.{good_map}

-- a file that was not read, and what is told of it
pub lacks : {F A : Type 0} (f : SourceGhosts F) (named named' : Bool) (old new : Option F) (word name : Text) (took took' : Option Text) (result : ℕ) → named ≡ named' → word ≡ name → FileFailed f named old new → IsUnread word took took' result
    → IfRead f named' old new name took took' result A
lacks f named named' old new word name took took' result n w failed (inl shows) =
    inl (subst (λ (b : Bool). FileFailed f b old new) n failed, subst (λ (x : Text). Shows took took' (unread_text x) 4 result) w shows)
lacks f named named' old new word name took took' result n w failed (inr refused) = inr (inl refused)

-- one that was
pub was_read : {F A : Type 0} (f : SourceGhosts F) (named named' : Bool) (old new : Option F) (name : Text) (took took' : Option Text) (result : ℕ) → named ≡ named' → FileWasRead f named old new → A → IfRead f named' old new name took took' result A
was_read f named named' old new name took took' result n read h = inr (inr (subst (λ (b : Bool). FileWasRead f b old new) n read, h))

-- and what follows from what is behind it
goes_on : {F A B : Type 0} (f : SourceGhosts F) (named : Bool) (old new : Option F) (name : Text) (took took' : Option Text) (result : ℕ) → (A → B) → IfRead f named old new name took took' result A → IfRead f named old new name took took' result B
goes_on f named old new name took took' result g (inl h) = inl h
goes_on f named old new name took took' result g (inr (inl h)) = inr (inl h)
goes_on f named old new name took took' result g (inr (inr h)) = inr (inr (h.0, g h.1))

-- a row of observations that is not good
pub refused_row : {F : Type 0} (f : SourceGhosts F) (named named' : Bool) (old new : Option F) (name : Text) (packed_of : Option Text → Result Text ℕ) (n faults faults' : ℕ) (took took' : Option Text) (result : ℕ) (says : Text → Type 0)
    → named ≡ named' → FileWasRead f named old new → ((o : Option Text) → FileHas named' (option_map f.left old) o → packed_of o ≡ Err n) → result ≢ 4 → IsRefusedRow n took took' result
    → IfRead f named' old new name took took' result (((o : Option Text) → FileHas named' (option_map f.left old) o → IfGood (packed_of o) took took' result says) × (result ≡ 4 → Rose faults faults'))
refused_row f named named' old new name packed_of n faults faults' took took' result says e read bad other (inl shows) =
    was_read f named named' old new name took took' result e read (
      (λ o fo. subst (λ (x : Result Text ℕ). IfGood x took took' result says) (sym (bad o fo)) shows),
      (λ four. absurd (other four)),
    )
refused_row f named named' old new name packed_of n faults faults' took took' result says e read bad other (inr refused) = inr (inl refused)

-- beside the lines that were read, which are those that are told
pub shows_log : {F : Type 0} (f : SourceGhosts F) (form : Form) (files : FilesBeside F) (new : Option F) (name : Text) (lines lines' : Option (List Text)) (says : SaysBeside) (faults faults' : ℕ) (took took' : Option Text) (result : ℕ)
    → ((s : Option (List Text)) → FileIs (has_script (files_of form)) (option_map f.left files.script) s → lines ≡ s)
    → ((a : Option (List Text)) → FileIs (has_answers (files_of form)) (option_map f.left files.answers) a → lines' ≡ a)
    → IfRead f (has_observations (files_of form)) files.observations new name took took' result
    (((o : Option Text) → FileHas (has_observations (files_of form)) (option_map f.left files.observations) o → IfGood (observed lines lines' o) took took' result (says lines lines')) × (result ≡ 4 → Rose faults faults'))
    → IfRead f (has_observations (files_of form)) files.observations new name took took' result (ShowsLog f form files says faults faults' took took' result)
shows_log f form files new name lines lines' says faults faults' took took' result script answers =
    goes_on f (has_observations (files_of form)) files.observations new name took took' result (λ h. record {
      exact = λ s a o fs fa fo. subst (λ (x : Option (List Text)). IfGood (observed x a o) took took' result (says x a)) (script s fs)
          (subst (λ (y : Option (List Text)). IfGood (observed lines y o) took took' result (says lines y)) (answers a fa) (h.0 o fo));
      read_fault = h.1;
    })

-- where the log is told too, its text is exact
log_exactly : {F : Type 0} (f : SourceGhosts F) (form : Form) (page : PageTexts) (words : List Text) (files : FilesBeside F) (left left' took took' : Option Text) (faults faults' result : ℕ)
    → ShowsLog f form files (form_answers form page words left left' took took' result) faults faults' took took' result
    → ShowsLog f form files (form_exactly form page words left took took' result) faults faults' took took' result
log_exactly f form page words files left left' took took' faults faults' result h = record {
  exact = λ s a o fs fa fo. good_map (observed s a o) took took' result (form_answers form page words left left' took took' result s a) (form_exactly form page words left took took' result s a)
      (λ packed t. says_exactly (beside s a) (form_sought form) (form_said form (whole_page page (asked_word words 1) packed) s a) (form_why form) left left' took took' result t) (h.exact s a o fs fa fo);
  read_fault = h.read_fault;
}

form_exact : {F : Type 0} (f : SourceGhosts F) (form : Form) (page : PageTexts) (words : List Text) (old new : FilesBeside F) (left left' took took' : Option Text) (faults faults' result : ℕ)
    → ShowsForm f form words old new (form_answers form page words left left' took took' result) faults faults' took took' result
    → ShowsForm f form words old new (form_exactly form page words left took took' result) faults faults' took took' result
form_exact f form page words old new left left' took took' faults faults' result =
    goes_on f (has_script (files_of form)) old.script new.script (asked_word words (files_at form)) took took' result
    (goes_on f (has_answers (files_of form)) old.answers new.answers (asked_word words (files_at form + 1)) took took' result
    (goes_on f (has_observations (files_of form)) old.observations new.observations (asked_word words (files_at form + 2)) took took' result
    (log_exactly f form page words old left left' took took' faults faults' result)))

-- by the form that was asked for
pub shows_exactly : {F : Type 0} (f : SourceGhosts F) (asked form : Form) (page : PageTexts) (words : List Text) (old new : FilesBeside F) (left left' took took' : Option Text) (faults faults' result : ℕ) → asked ≡ form
    → ShowsForm f asked words old new (form_answers asked page words left left' took took' result) faults faults' took took' result
    → ShowsForm f form words old new (form_exactly form page words left took took' result) faults faults' took took' result
shows_exactly f asked form page words old new left left' took took' faults faults' result e h =
    subst (λ (x : Form). ShowsForm f x words old new (form_exactly x page words left took took' result) faults faults' took took' result) e
    (form_exact f asked page words old new left left' took took' faults faults' result h)
