use Rattle.std.proofs.Common.{◌≡◌, ◌-◌, length, take}
use Rattle.mm_observations.specs.{row_numbers}
use Rattle.mm_observations.proofs.{numbers_behind}
use Rattle.mm_observations.proofs.reading.read_numbers.Given as goal

-- the numbers so far, and those that the words are that are left
abbrev pub invariant-loop-i : goal.invariant-loop-i
invariant-loop-i l = record {
  line : l.words.line ≡ l.line;
  read : row_numbers (length l.numbers) l.fn.words.left ≡ numbers_behind (take l.i l.numbers) (row_numbers (length l.numbers - l.i) l.words.left);
}
