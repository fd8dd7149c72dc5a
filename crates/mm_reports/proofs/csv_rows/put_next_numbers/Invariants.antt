use Rattle.std.proofs.Common.{◌≡◌, ◌++◌, drop}
use Rattle.std.specs.Prelude.{flat_map}
use Rattle.mm_reports.specs.{number_next}
use Rattle.mm_reports.proofs.csv_rows.put_next_numbers.Given as goal

abbrev pub invariant-loop-n : goal.invariant-loop-n
invariant-loop-n l = l.text.items ++ flat_map number_next (drop l.n-index l.numbers) ≡ l.fn.text.items ++ flat_map number_next l.numbers
