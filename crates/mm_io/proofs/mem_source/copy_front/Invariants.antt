use Rattle.std.proofs.Common.{◌≡◌, take}
use Rattle.mm_io.proofs.mem_source.copy_front.Given as goal

abbrev pub invariant-loop-i : goal.invariant-loop-i
invariant-loop-i l = take l.i l.buf ≡ take l.i l.bytes
