use Rattle.std.proofs.Common.{◌≡◌, ◌∙◌, ◌+◌, Bool, List, Option, ℕ, Ok, Err, sym, ap, subst, option_map}
use Rattle.std.specs.Prelude.{map, string_bytes}
use Rattle.mm_types.specs.{Text}
use Rattle.mm_observations.specs.{PackFault, RefusesFile}
use Rattle.mm_show.specs.{files_of, has_observations, FileHas, observed, form_answers, files_at, asked_word}
use Rattle.mm_log_walk.specs.{Answers, beside}
use Rattle.mm_show.specs.{form_said, form_sought, form_why, whole_page}
use Rattle.mm_show.proofs.{file_bytes, good_told, lacks, refused_row, was_read}
use Rattle.mm_show.proofs.top.show_beside.Goals as goal

pub returns-clause-shows : goal.returns-clause-shows
returns-clause-shows g c =
    let a = c.args in
    let left = g.S.Source.left a.log.now in
    let left' = g.S.Source.left c.shown.new.log in
    let took = g.O.Sink.taken a.out.now in
    let took' = g.O.Sink.taken c.shown.new.out in
    let lo = option_map g.F.Source.left a.observations.now in
    let script = a.script.now in
    let answers = a.answers.now in
    let status = c.shown.result in
    let text = c.in-Ok-observed.packed.items in
    let words = map string_bytes a.words.now in
    let name = asked_word words 1 in
    let named : c.has_observations-is_named.result ≡ has_observations (files_of a.form) = c.has_observations-is_named.ensures ∙ ap has_observations c.files_of.ensures in
    let told : Answers left left' took took' (beside script answers) (form_sought a.form) (form_said a.form (whole_page a.page.now name text) script answers) (form_why a.form) status =
    subst (λ (n : Text). Answers left left' took took' (beside script answers) (form_sought a.form) (form_said a.form (whole_page a.page.now n text) script answers) (form_why a.form) status) c.asked_word-2.ensures
    (subst (λ (t : Text). Answers left left' took took' (beside script answers) (form_sought a.form) (form_said a.form (whole_page a.page.now c.asked_word-2.result.now t) script answers) (form_why a.form) status) c.as_slice.ensures.value c.shown.ensures.answers) in
    was_read g.F.Source _ _ a.observations.now c.named_bytes.new.file (asked_word words (files_at a.form + 2)) took took' status named c.in-Ok.ensures.file.read (
      (λ o fo.
          let e : option_map (λ b. b.items) c.in-Ok.bytes ≡ o = file_bytes (λ b. b.items) c.has_observations-is_named.result lo c.in-Ok.bytes o (subst (λ (b : Bool). FileHas b lo o) (sym named) fo) c.in-Ok.ensures.none c.in-Ok.ensures.bytes in
          let good : observed script answers o ≡ Ok text = ap (λ (x : Option Text). observed script answers x) (sym e) ∙ c.in-Ok-observed.ensures in
          good_told (observed script answers o) text took took' status (form_answers a.form a.page.now words left left' took took' status script answers) good told),
      c.shown.ensures.read_fault,
    )

pub returns-in-Err-Row-clause-shows : goal.returns-in-Err-Row-clause-shows
returns-in-Err-Row-clause-shows g c =
    let a = c.args in
    let left = g.S.Source.left a.log.now in
    let took = g.O.Sink.taken a.out.now in
    let took' = g.O.Sink.taken c.refused.new.out in
    let lo = option_map g.F.Source.left a.observations.now in
    let script = a.script.now in
    let answers = a.answers.now in
    let words = map string_bytes a.words.now in
    let named : c.has_observations-is_named.result ≡ has_observations (files_of a.form) = c.has_observations-is_named.ensures ∙ ap has_observations c.files_of.ensures in
    let refuses : observed script answers (option_map (λ b. b.items) c.in-Ok.bytes) ≡ Err c.in-Err-Row.row = subst (λ (f : PackFault). RefusesFile (observed script answers (option_map (λ b. b.items) c.in-Ok.bytes)) f) c.in-Err-Row.field-0-is c.in-Err-Row.ensures in
    refused_row g.F.Source _ _ a.observations.now c.named_bytes.new.file (asked_word words (files_at a.form + 2)) (observed script answers) c.in-Err-Row.row (g.S.Source.faults a.log.now) (g.S.Source.faults a.log.now) took took' c.refused.result
    (form_answers a.form a.page.now words left left took took' c.refused.result script answers) named c.in-Ok.ensures.file.read
    (λ o fo.
    let e : option_map (λ b. b.items) c.in-Ok.bytes ≡ o = file_bytes (λ b. b.items) c.has_observations-is_named.result lo c.in-Ok.bytes o (subst (λ (b : Bool). FileHas b lo o) (sym named) fo) c.in-Ok.ensures.none c.in-Ok.ensures.bytes in
    ap (λ (x : Option Text). observed script answers x) (sym e) ∙ refuses)
    c.refused.ensures.fault (rw c.in-Err-Row.field-0-is at c.refused.ensures.says)

-- the file of observations, which stands two words behind the first
pub returns-in-Err-Failed-clause-shows : goal.returns-in-Err-Failed-clause-shows
returns-in-Err-Failed-clause-shows g c =
    let a = c.args in
    let words = map string_bytes a.words.now in
    let named : c.has_observations-is_named.result ≡ has_observations (files_of a.form) = c.has_observations-is_named.ensures ∙ ap has_observations c.files_of.ensures in
    let same : c.asked_word.result.now ≡ asked_word words (files_at a.form + 2) = c.asked_word.ensures ∙ ap (λ (k : ℕ). asked_word words (k + 2)) c.files_at.ensures in
    lacks g.F.Source _ _ a.observations.now c.named_bytes.new.file c.asked_word.result.now (asked_word words (files_at a.form + 2)) (g.O.Sink.taken a.out.now) (g.O.Sink.taken c.unread.new.out) c.unread.result named same (c.in-Err-Failed.ensures.file.failed (ap Err c.in-Err-Failed.field-0-is)) c.unread.ensures.says
