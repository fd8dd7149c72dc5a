use Rattle.std.proofs.Common.{◌≡◌, ◌+◌, ◌*◌, ◌≤◌, length, take}
use Rattle.mm_text.specs.{pairs_of}
use Rattle.mm_text.proofs.{behind}
use Rattle.mm_text.proofs.fields.bytes.Given as goal

abbrev pub invariant-loop-rest : goal.invariant-loop-rest
invariant-loop-rest l = record {
  places : length l.room ≡ 64;
  few : 2 * l.len + length l.rest ≤ 128;
  pairs : pairs_of l.word ≡ behind (take l.len l.room) (pairs_of l.rest);
}

abbrev pub decreases-loop-rest : goal.decreases-loop-rest
decreases-loop-rest l = length l.rest
