use Rattle.std.proofs.Common.{◌+◌, ◌++◌, drop, ap, ◌∙◌}
use Rattle.mm_types.specs.{Text}
use Rattle.mm_show.specs.{script_row, script_rows}
use Rattle.mm_show.proofs.{rows_more}
use Rattle.mm_show.proofs.rows.put_script_rows.Goals as goal

pub loop-i-preserved : goal.loop-i-preserved
loop-i-preserved c =
    let l = c.loop-i in
    ap (λ (out : Text). out ++ script_rows (drop (l.i + 1) c.args.lines.now)) c.in_ok-put_script_row.ensures
    ∙ rows_more script_row l.text.items c.args.lines.now l.i c.in-Some.line.now c.in-Some.ensures ∙ l.invariant
