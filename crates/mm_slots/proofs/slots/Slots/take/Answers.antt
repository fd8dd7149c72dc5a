use Rattle.std.proofs.Common.{arith}
use Rattle.mm_bits.specs.{have_bit}
use Rattle.mm_slots.proofs.{some_free, slot_taken, lowest_slot, shown_changed}
use Rattle.mm_slots.proofs.slots.Slots.take.Goals as goal

pub take_lowest-slot-requires-clause-some : goal.take_lowest-slot-requires-clause-some
take_lowest-slot-requires-clause-some c =
    let back = have_bit c.self.inside.back.words in
    let some = some_free back back _ 0 _ 0 _ _ _ c.self.invariant c.if-self-eq0.false in
    (some.0, some.1, omega (arith, some.2))

pub invariant_of-self : goal.invariant_of-self
invariant_of-self c =
    let t = c.take_lowest-slot.ensures in
    slot_taken _ _ _ _ _ _ _ _ _ c.self.invariant c.take_lowest-slot.result c.if-self-eq0.false t.lowest t.room t.front t.low t.taken

pub returns-clause-lowest : goal.returns-clause-lowest
returns-clause-lowest c =
    let back = have_bit c.self.inside.back.words in
    lowest_slot back back _ 0 _ 0 _ _ _ c.self.invariant c.take_lowest-slot.result c.args.self.now c.if-self-eq0.false c.self.view_is c.take_lowest-slot.ensures.lowest

pub returns-clause-taken : goal.returns-clause-taken
returns-clause-taken c = shown_changed _ _ _ _ _ _ c.args.self.now c.self.view_is c.take_lowest-slot.ensures.taken
