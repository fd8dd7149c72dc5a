use Rattle.std.proofs.Common.{◌≡◌, ◌+◌, Bool, List, Option, ℕ, Err, sym, ap, ◌∙◌, subst, option_map}
use Rattle.std.specs.Prelude.{map, string_bytes}
use Rattle.mm_show.specs.{files_of, has_script, has_answers, FileIs, files_at, files_beside_log, form_answers, asked_word}
use Rattle.mm_show.proofs.{file_lines, lacks, shows_log, was_read}
use Rattle.mm_show.proofs.top.show_form.Goals as goal

pub returns-clause-shows : goal.returns-clause-shows
returns-clause-shows g c =
    let a = c.args in
    let words = map string_bytes a.words.now in
    let left = g.S.Source.left a.log.now in
    let took = g.O.Sink.taken a.out.now in
    let took' = g.O.Sink.taken c.show_beside.new.out in
    let ls = option_map g.F.Source.left a.script.now in
    let lt = option_map g.F.Source.left a.answers.now in
    let status = c.show_beside.result in
    let named : c.has_script.result ≡ has_script (files_of a.form) = c.has_script.ensures ∙ ap has_script c.files_of-files.ensures in
    let named' : c.has_answers.result ≡ has_answers (files_of a.form) = c.has_answers.ensures ∙ ap has_answers c.files_of-files.ensures in
    was_read g.F.Source _ _ a.script.now c.named_lines.new.file (asked_word words (files_at a.form)) took took' status named c.in-Ok.ensures.file.read
    (was_read g.F.Source _ _ a.answers.now c.named_lines-2.new.file (asked_word words (files_at a.form + 1)) took took' status named' c.in-Ok-named_lines.ensures.file.read
    (shows_log g.F.Source a.form (files_beside_log a.script.now a.answers.now a.observations.now) c.show_beside.new.observations (asked_word words (files_at a.form + 2)) c.in-Ok.lines c.in-Ok-named_lines.lines
    (form_answers a.form a.page.now words left (g.S.Source.left c.show_beside.new.log) took took' status) (g.S.Source.faults a.log.now) (g.S.Source.faults c.show_beside.new.log) took took' status
    (λ s fs. file_lines c.has_script.result ls c.in-Ok.lines s (subst (λ (b : Bool). FileIs b ls s) (sym named) fs) c.in-Ok.ensures.none c.in-Ok.ensures.lines)
    (λ t ft. file_lines c.has_answers.result lt c.in-Ok-named_lines.lines t (subst (λ (b : Bool). FileIs b lt t) (sym named') ft) c.in-Ok-named_lines.ensures.none c.in-Ok-named_lines.ensures.lines)
    c.show_beside.ensures.shows))

pub returns-in-Err-Failed-clause-shows : goal.returns-in-Err-Failed-clause-shows
returns-in-Err-Failed-clause-shows g c =
    let a = c.args in
    let words = map string_bytes a.words.now in
    let named : c.has_script.result ≡ has_script (files_of a.form) = c.has_script.ensures ∙ ap has_script c.files_of-files.ensures in
    let same : c.asked_word.result.now ≡ asked_word words (files_at a.form) = c.asked_word.ensures ∙ ap (λ (k : ℕ). asked_word words k) c.files_at.ensures in
    lacks g.F.Source _ _ a.script.now c.named_lines.new.file c.asked_word.result.now (asked_word words (files_at a.form)) (g.O.Sink.taken a.out.now) (g.O.Sink.taken c.unread.new.out) c.unread.result named same (c.in-Err-Failed.ensures.file.failed (ap Err c.in-Err-Failed.field-0-is)) c.unread.ensures.says

pub returns-in-Err-Failed-named_lines-clause-shows : goal.returns-in-Err-Failed-named_lines-clause-shows
returns-in-Err-Failed-named_lines-clause-shows g c =
    let a = c.args in
    let words = map string_bytes a.words.now in
    let took = g.O.Sink.taken a.out.now in
    let took' = g.O.Sink.taken c.unread-in-Err-Failed-named_lines.new.out in
    let status = c.unread-in-Err-Failed-named_lines.result in
    let named : c.has_script.result ≡ has_script (files_of a.form) = c.has_script.ensures ∙ ap has_script c.files_of-files.ensures in
    let named' : c.has_answers.result ≡ has_answers (files_of a.form) = c.has_answers.ensures ∙ ap has_answers c.files_of-files.ensures in
    let same : c.asked_word-in-Err-Failed-named_lines.result.now ≡ asked_word words (files_at a.form + 1) = c.asked_word-in-Err-Failed-named_lines.ensures ∙ ap (λ (k : ℕ). asked_word words (k + 1)) c.files_at-in-Err-Failed-named_lines.ensures in
    was_read g.F.Source _ _ a.script.now c.named_lines.new.file (asked_word words (files_at a.form)) took took' status named c.in-Ok.ensures.file.read
    (lacks g.F.Source _ _ a.answers.now c.named_lines-2.new.file c.asked_word-in-Err-Failed-named_lines.result.now (asked_word words (files_at a.form + 1)) took took' status named' same (c.in-Err-Failed-named_lines.ensures.file.failed (ap Err c.in-Err-Failed-named_lines.field-0-is)) c.unread-in-Err-Failed-named_lines.ensures.says)
