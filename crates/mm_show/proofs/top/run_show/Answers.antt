use Rattle.std.proofs.Common.{◌≡◌, ◌∙◌, Some, sym, refl, inl}
use Rattle.std.specs.Prelude.{map, string_bytes}
use Rattle.mm_show.proofs.{shows_exactly}
use Rattle.mm_show.specs.{files_beside_log}
use Rattle.mm_show.proofs.top.run_show.Goals as goal

pub returns-in-Ok-Some-clause-shows : goal.returns-in-Ok-Some-clause-shows
returns-in-Ok-Some-clause-shows g c = λ f asks.
    let a = c.args in
    let new = c.show_form.new in
    let found : Some c.in-Ok-Some.form ≡ Some f = sym c.in-Ok-Some.field-0-is ∙ (c.in-Ok-Some.ensures ∙ asks) in
    let same : c.in-Ok-Some.form ≡ f = cc in
    shows_exactly g.F.Source c.in-Ok-Some.form f a.page.now (map string_bytes a.words.now) (files_beside_log a.script.now a.answers.now a.observations.now) (files_beside_log new.script new.answers new.observations)
    (g.S.Source.left a.log.now) (g.S.Source.left new.log) (g.O.Sink.taken a.out.now) (g.O.Sink.taken new.out) (g.S.Source.faults a.log.now) (g.S.Source.faults new.log) c.show_form.result same c.show_form.ensures.shows

pub returns-in-Ok-None-clause-usage : goal.returns-in-Ok-None-clause-usage
returns-in-Ok-None-clause-usage g c = λ none. (refl, inl c.write_text.ensures.shows)
