use Rattle.std.proofs.Common.{ap, length, arith}
use Rattle.mm_bits.specs.{have_bit}
use Rattle.mm_slots.specs.{SlotsOf, is_free}
use Rattle.mm_slots.proofs.{length-flags, slots_grown, shown_grown}
use Rattle.mm_slots.proofs.slots.Slots.grow.Goals as goal

pub overflow_add-self : goal.overflow_add-self
overflow_add-self c =
    let slots = ap (λ (v : SlotsOf). length v.free) c.self.view_is in
    omega (arith, slots, length-flags (is_free (have_bit c.self.inside.back.words) c.self.inside.fresh) c.self.inside.slots, c.requires.small)

pub invariant_of-self : goal.invariant_of-self
invariant_of-self c =
    let back = have_bit c.self.inside.back.words in
    let spare = ap (λ (v : SlotsOf). v.spare) c.self.view_is in
    slots_grown back back _ 0 _ 0 _ _ _ c.self.invariant c.args.n (omega (arith, spare, c.requires.spare))

pub returns : goal.returns
returns c =
    let back = have_bit c.self.inside.back.words in
    shown_grown back back _ 0 _ 0 _ _ _ c.self.invariant c.args.n c.args.self.now c.self.view_is
