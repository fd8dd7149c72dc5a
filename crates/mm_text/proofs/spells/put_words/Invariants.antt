use Rattle.std.proofs.Common.{◌≡◌, ◌+◌, ◌*◌, ◌≤◌, ◌++◌, length, drop, map}
use Rattle.mm_text.specs.{following, number_word}
use Rattle.mm_text.proofs.spells.put_words.Given as goal

abbrev pub invariant-loop-number : goal.invariant-loop-number
invariant-loop-number l = record {
  few : length l.out ≤ length l.fn.out + 11 * l.number-index;
  text : l.out ++ following (map (number_word l.hex) (drop l.number-index l.numbers)) ≡ l.fn.out ++ following (map (number_word l.hex) l.numbers);
}
