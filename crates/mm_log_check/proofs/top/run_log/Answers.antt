use Rattle.std.proofs.Common.{◌≡◌, ◌∙◌, sym, Some, subst, inl}
use Rattle.mm_log_check.specs.{Asked, LogCheckRan}
use Rattle.mm_log_check.proofs.{says_yes, says_no, ran_refused}
use Rattle.mm_log_check.proofs.top.run_log.Goals as goal

pub returns-in-Ok-Some-clause-yes : goal.returns-in-Ok-Some-clause-yes
returns-in-Ok-Some-clause-yes g c = λ a text moves l asks told few whole replays.
    let left = g.S.Source.left c.args.source.now in
    let left' = g.S.Source.left c.answer.new.source in
    let took = g.O.Sink.taken c.args.out.now in
    let took' = g.O.Sink.taken c.answer.new.out in
    let found : Some c.in-Ok-Some.asked ≡ Some a = sym c.in-Ok-Some.field-0-is ∙ c.in-Ok-Some.ensures.all a asks in
    let same : c.in-Ok-Some.asked ≡ a = cc in
    let ran : LogCheckRan a left left' took took' c.answer.result = subst (λ (x : Asked). LogCheckRan x left left' took took' c.answer.result) same c.answer.ensures.ran in
    says_yes a text moves l left left' took took' c.answer.result told few whole replays ran

pub returns-in-Ok-Some-clause-no : goal.returns-in-Ok-Some-clause-no
returns-in-Ok-Some-clause-no g c = λ a text rest moves l asks told few in_range whole replays stuck.
    let left = g.S.Source.left c.args.source.now in
    let left' = g.S.Source.left c.answer.new.source in
    let took = g.O.Sink.taken c.args.out.now in
    let took' = g.O.Sink.taken c.answer.new.out in
    let found : Some c.in-Ok-Some.asked ≡ Some a = sym c.in-Ok-Some.field-0-is ∙ c.in-Ok-Some.ensures.all a asks in
    let same : c.in-Ok-Some.asked ≡ a = cc in
    let ran : LogCheckRan a left left' took took' c.answer.result = subst (λ (x : Asked). LogCheckRan x left left' took took' c.answer.result) same c.answer.ensures.ran in
    says_no a text rest moves l left left' took took' c.answer.result told few in_range whole replays stuck ran

pub returns-in-Ok-None-clause-usage : goal.returns-in-Ok-None-clause-usage
returns-in-Ok-None-clause-usage g c = λ no. inl c.write_text.ensures.shows

pub returns-in-Err-clause-ran : goal.returns-in-Err-clause-ran
returns-in-Err-clause-ran g c = λ a asks. ran_refused a (g.S.Source.left c.args.source.now) (g.O.Sink.taken c.args.out.now)
