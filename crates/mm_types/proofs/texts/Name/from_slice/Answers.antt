use Rattle.std.proofs.Common.{arith, ap, length}
use Rattle.mm_types.proofs.{padded_front}
use Rattle.mm_types.proofs.texts.Name.from_slice.Goals as goal

pub invariant_of-result : goal.invariant_of-result
invariant_of-result c = (grind (arith, c.if-is_empty.ensures), padded_front 32 _ c.copy_from_slice.new.self (ap length c.copy_from_slice.ensures.after) (omega arith))
