use Rattle.std.proofs.Common.{◌≡◌, ◌++◌, drop, map, false}
use Rattle.mm_transcripts.specs.{bit_row, union_text}
use Rattle.mm_transcripts.proofs.numbers.put_bits.Given as goal

abbrev pub invariant-loop-bit : goal.invariant-loop-bit
invariant-loop-bit l =
    l.text.items ++ union_text l.after (map bit_row (drop l.bit-index l.bits)) l.value
    ≡ l.fn.text.items ++ union_text false (map bit_row l.bits) l.value
