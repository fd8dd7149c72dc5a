use Rattle.std.proofs.Common.{arith}
use Rattle.mm_bits.specs.{have_bit}
use Rattle.mm_slots.proofs.{flags_all, free_fresh, new_slots}
use Rattle.mm_slots.proofs.slots.Slots.new.Goals as goal

pub invariant_of-result : goal.invariant_of-result
invariant_of-result c =
    new_slots (have_bit c.in_ok-new.field-0.words) c.in_ok-new.field-0.room c.args.n (λ i h. c.in_ok-new.ensures.empty i) (omega (arith, c.in_ok-new.ensures.room))

pub returns : goal.returns
returns c = flags_all _ c.args.n (λ i. free_fresh (have_bit c.in_ok-new.field-0.words) 0 i (omega arith))
