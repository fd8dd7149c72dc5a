use Rattle.std.proofs.Common.{◌≡◌, drop}
use Rattle.mm_names.specs.{nothing_yet, sum_with_all}
use Rattle.mm_names.proofs.numbers.value_of.Given as goal

abbrev pub invariant-loop-byte : goal.invariant-loop-byte
invariant-loop-byte l =
    sum_with_all l.names nothing_yet l.word ≡ sum_with_all l.names l.sum (drop l.byte-index l.word)
