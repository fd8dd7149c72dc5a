use Rattle.std.proofs.Common.{◌+◌, ◌++◌, drop, ap, ◌∙◌}
use Rattle.mm_types.specs.{Text}
use Rattle.mm_show.specs.{answer_row, answer_rows}
use Rattle.mm_show.proofs.{rows_more}
use Rattle.mm_show.proofs.rows.put_answer_rows.Goals as goal

pub loop-i-preserved : goal.loop-i-preserved
loop-i-preserved c =
    let l = c.loop-i in
    ap (λ (out : Text). out ++ answer_rows (drop (l.i + 1) c.args.answers.now)) c.in_ok-put_answer_row.ensures
    ∙ rows_more answer_row l.text.items c.args.answers.now l.i c.in-Some.answer.now c.in-Some.ensures ∙ l.invariant
