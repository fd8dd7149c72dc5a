use Rattle.std.proofs.Common.{◌≡◌, ◌+◌, ◌*◌, ◌++◌, length, take, drop}
use Rattle.std.specs.Prelude.{codes}
use Rattle.mm_types.specs.{byte_pairs}
use Rattle.mm_run.proofs.answers.put_read.Given as goal

abbrev pub invariant-loop-byte : goal.invariant-loop-byte
invariant-loop-byte l = record {
  room : length l.out ≡ length l.fn.out;
  end : l.end ≡ l.at + 3 + 2 * l.byte-index;
  pairs : take l.end l.out ++ byte_pairs (drop l.byte-index l.bytes) ≡ (take l.at l.fn.out ++ codes "ok ") ++ byte_pairs l.bytes;
}
