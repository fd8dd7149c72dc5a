use Rattle.std.proofs.Common.{arith}
use Rattle.mm_io.proofs.{moved}
use Rattle.mm_io.proofs.buffers.move_front.Goals as goal

pub returns : goal.returns
returns c = moved _ _ _ _ (omega arith) c.loop-i.invariant.same (λ k h. c.loop-i.invariant.moved k (omega arith))
