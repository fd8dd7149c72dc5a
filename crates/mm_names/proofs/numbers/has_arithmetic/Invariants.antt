use Rattle.std.proofs.Common.{◌≡◌, drop}
use Rattle.std.specs.List.{list_any}
use Rattle.mm_names.specs.{is_arithmetic}
use Rattle.mm_names.proofs.numbers.has_arithmetic.Given as goal

abbrev pub invariant-loop-byte : goal.invariant-loop-byte
invariant-loop-byte l = list_any is_arithmetic l.word ≡ list_any is_arithmetic (drop l.byte-index l.word)
