use Rattle.std.proofs.Common.{◌≡◌, ◌+◌, ◌*◌, ◌++◌, length, drop}
use Rattle.mm_types.specs.{byte_pairs}
use Rattle.mm_text.proofs.puts.put_bytes.Given as goal

abbrev pub invariant-loop-byte : goal.invariant-loop-byte
invariant-loop-byte l = record {
  len : length l.out ≡ length l.fn.out + 2 * l.byte-index;
  pairs : l.out ++ byte_pairs (drop l.byte-index l.bytes) ≡ l.fn.out ++ byte_pairs l.bytes;
}
