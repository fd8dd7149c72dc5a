use Rattle.std.proofs.Common.{◌++◌, refl, ap, ◌∙◌}
use Rattle.mm_types.specs.{Text}
use Rattle.mm_replay.specs.Standing.{life}
use Rattle.mm_move_classes.specs.{mark_before}
use Rattle.mm_show.specs.{classed_data, PageTeller}
use Rattle.mm_show.proofs.{page_taken}
use Rattle.mm_show.proofs.data.PageTellerTeller.take.Goals as goal

pub returns-clause-text : goal.returns-clause-text
returns-clause-text c =
    let a = c.args in
    let t : PageTeller = record { classifier = c.next.new.self; line = c.put_classed.new.line; front = a.self.now.front; written = c.put_mark_before.new.text; behind = a.self.now.behind } in
    λ whole ms. ap (λ (xs : Text). c.args._text.now.items ++ xs)
    (page_taken a.self.now t (life a.life.now) a.m.now refl refl
    (c.in_ok-put_mark_before.ensures ∙ ap (λ xs. xs ++ mark_before (life a.life.now) a.m.now) (c.in_ok-put_classed.ensures ∙ ap (λ b. a.self.now.written.items ++ classed_data b) c.in_ok-before.ensures.before))
    c.in_ok-before.ensures.marks c.in_ok-before.ensures.pending whole ms)
