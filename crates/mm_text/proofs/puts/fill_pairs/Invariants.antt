use Rattle.std.proofs.Common.{◌≡◌, ◌*◌, ◌++◌, length, take, drop}
use Rattle.mm_types.specs.{byte_pairs}
use Rattle.mm_text.proofs.puts.fill_pairs.Given as goal

abbrev pub invariant-loop-byte : goal.invariant-loop-byte
invariant-loop-byte l = record {
  places : length l.room ≡ 128;
  end : l.end ≡ 2 * l.byte-index;
  pairs : take l.end l.room ++ byte_pairs (drop l.byte-index l.bytes) ≡ byte_pairs l.bytes;
}
