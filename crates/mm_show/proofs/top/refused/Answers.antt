use Rattle.std.proofs.Common.{◌≡◌, ◌∙◌, ◌++◌, ap, subst, inl}
use Rattle.mm_types.specs.{Text}
use Rattle.mm_log_check.specs.{Shows}
use Rattle.mm_show.specs.{bad_row_text}
use Rattle.mm_show.proofs.top.refused.Goals as goal

pub returns-in-Ok-clause-says : goal.returns-in-Ok-clause-says
returns-in-Ok-clause-says g c =
    let row : Text = bad_row_text c.args.row in
    let text : c.put_bad_row.new.text.items ≡ row = c.in-Ok.ensures ∙ ap (λ xs. xs ++ row) c.new-text.ensures.items in
    inl (subst (λ (x : Text). Shows (g.O.Sink.taken c.args.out.now) (g.O.Sink.taken c.write_text.new.out) x 6 c.write_text.result) (c.as_slice.ensures.value ∙ text) c.write_text.ensures.shows)
