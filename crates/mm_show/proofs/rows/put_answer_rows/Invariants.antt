use Rattle.std.proofs.Common.{◌≡◌, ◌++◌, drop}
use Rattle.mm_show.specs.{answer_rows}
use Rattle.mm_show.proofs.rows.put_answer_rows.Given as goal

abbrev pub invariant-loop-i : goal.invariant-loop-i
invariant-loop-i l =
    l.text.items ++ answer_rows (drop l.i l.answers) ≡ l.fn.text.items ++ answer_rows l.answers
