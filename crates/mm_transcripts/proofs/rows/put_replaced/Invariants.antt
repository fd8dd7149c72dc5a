use Rattle.std.proofs.Common.{◌≡◌, ◌++◌, drop}
use Rattle.mm_transcripts.specs.{printable}
use Rattle.mm_transcripts.proofs.rows.put_replaced.Given as goal

abbrev pub invariant-loop-byte : goal.invariant-loop-byte
invariant-loop-byte l = l.text.items ++ printable (drop l.byte-index l.bytes) ≡ l.fn.text.items ++ printable l.bytes
