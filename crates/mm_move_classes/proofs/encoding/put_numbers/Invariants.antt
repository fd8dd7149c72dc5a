use Rattle.std.proofs.Common.{◌≡◌, ◌≤◌, ◌+◌, ◌*◌, ◌++◌, length, drop}
use Rattle.mm_move_classes.specs.{numbers_text}
use Rattle.mm_move_classes.proofs.encoding.put_numbers.Given as goal

abbrev pub invariant-loop-n : goal.invariant-loop-n
invariant-loop-n l = record {
  few : length l.out ≤ length l.fn.out + 13 * l.n-index;
  text : l.out ++ numbers_text (drop l.n-index l.numbers) ≡ l.fn.out ++ numbers_text l.numbers;
}
