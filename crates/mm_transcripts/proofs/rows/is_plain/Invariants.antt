use Rattle.std.proofs.Common.{◌≡◌, drop}
use Rattle.mm_transcripts.specs.{printable}
use Rattle.mm_transcripts.proofs.rows.is_plain.Given as goal

abbrev pub invariant-loop-byte : goal.invariant-loop-byte
invariant-loop-byte l = printable (drop l.byte-index l.bytes) ≡ drop l.byte-index l.bytes → printable l.bytes ≡ l.bytes
