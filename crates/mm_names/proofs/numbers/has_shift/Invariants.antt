use Rattle.std.proofs.Common.{◌≡◌, drop}
use Rattle.std.specs.List.{list_any}
use Rattle.mm_names.specs.{is_shift}
use Rattle.mm_names.proofs.numbers.has_shift.Given as goal

abbrev pub invariant-loop-byte : goal.invariant-loop-byte
invariant-loop-byte l = list_any is_shift l.word ≡ list_any is_shift (drop l.byte-index l.word)
