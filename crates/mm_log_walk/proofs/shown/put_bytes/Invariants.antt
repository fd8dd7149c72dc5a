use Rattle.std.proofs.Common.{◌≡◌, ◌++◌, map, drop}
use Rattle.mm_log_walk.specs.{shown_byte}
use Rattle.mm_log_walk.proofs.shown.put_bytes.Given as goal

abbrev pub invariant-loop-byte : goal.invariant-loop-byte
invariant-loop-byte l = l.text.items ++ map shown_byte (drop l.byte-index l.bytes) ≡ l.fn.text.items ++ map shown_byte l.bytes
