use Rattle.std.proofs.Common.{◌≡◌, ◌++◌, drop}
use Rattle.mm_text.specs.{numbers_in}
use Rattle.mm_text.proofs.columns.put_numbers.Given as goal

abbrev pub invariant-loop-n : goal.invariant-loop-n
invariant-loop-n l = l.text.items ++ numbers_in l.width (drop l.n-index l.numbers) ≡ l.fn.text.items ++ numbers_in l.width l.numbers
