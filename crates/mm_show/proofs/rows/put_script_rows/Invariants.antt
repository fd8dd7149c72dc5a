use Rattle.std.proofs.Common.{◌≡◌, ◌++◌, drop}
use Rattle.mm_show.specs.{script_rows}
use Rattle.mm_show.proofs.rows.put_script_rows.Given as goal

abbrev pub invariant-loop-i : goal.invariant-loop-i
invariant-loop-i l =
    l.text.items ++ script_rows (drop l.i l.lines) ≡ l.fn.text.items ++ script_rows l.lines
