use Rattle.std.proofs.Common.{◌≡◌, ◌++◌, replicate}
use Rattle.mm_text.proofs.columns.put_spaces.Given as goal

abbrev pub invariant-loop-n : goal.invariant-loop-n
invariant-loop-n l = l.text.items ≡ l.fn.text.items ++ replicate l.n 32
