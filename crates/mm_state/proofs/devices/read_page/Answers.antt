use Rattle.std.proofs.Common.{ap, refl}
use Rattle.mm_types.proofs.{is_there}
use Rattle.mm_move_rules.specs.{slot_of}
use Rattle.mm_move_laws.specs.{block_of}
use Rattle.mm_state.proofs.devices.read_page.Goals as goal

pub read_from-requires-clause-block : goal.read_from-requires-clause-block
read_from-requires-clause-block g c = c.requires.there.0 c.in-Slot.s.0 (ap slot_of c.in-Slot.is)

pub read_from-requires-in-Block-clause-block : goal.read_from-requires-in-Block-clause-block
read_from-requires-in-Block-clause-block g c = c.requires.there.1 c.in-Block.b.0 (ap block_of c.in-Block.is)

pub returns-in-Slot-clause-shown : goal.returns-in-Slot-clause-shown
returns-in-Slot-clause-shown g c = rw c.in-Slot.is c.read_from.ensures.shown

pub returns-in-Slot-clause-page : goal.returns-in-Slot-clause-page
returns-in-Slot-clause-page g c = rw c.in-Slot.is (is_there _ c.in-Slot.s.0 (c.requires.there.0 c.in-Slot.s.0 (ap slot_of c.in-Slot.is)))

pub returns-in-Slot-clause-called : goal.returns-in-Slot-clause-called
returns-in-Slot-clause-called g c = rw c.in-Slot.is (c.read_from.ensures.read.served, refl)

pub returns-in-Block-clause-shown : goal.returns-in-Block-clause-shown
returns-in-Block-clause-shown g c = rw c.in-Block.is c.read_from-in-Block.ensures.shown

pub returns-in-Block-clause-page : goal.returns-in-Block-clause-page
returns-in-Block-clause-page g c = rw c.in-Block.is (is_there _ c.in-Block.b.0 (c.requires.there.1 c.in-Block.b.0 (ap block_of c.in-Block.is)))

pub returns-in-Block-clause-called : goal.returns-in-Block-clause-called
returns-in-Block-clause-called g c = rw c.in-Block.is (c.read_from-in-Block.ensures.read.served, refl)
