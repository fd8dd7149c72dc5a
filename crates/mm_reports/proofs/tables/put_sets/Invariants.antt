use Rattle.std.proofs.Common.{◌≡◌, ◌++◌, ◌+◌, drop}
use Rattle.mm_reports.specs.{set_rows}
use Rattle.mm_reports.proofs.tables.put_sets.Given as goal

abbrev pub invariant-loop-i : goal.invariant-loop-i
invariant-loop-i l = l.text.items ++ set_rows (l.i + 1) (drop l.i l.sets) ≡ l.fn.text.items ++ set_rows 1 l.sets
