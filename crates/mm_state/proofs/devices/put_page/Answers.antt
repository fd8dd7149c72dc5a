use Rattle.std.proofs.Common.{ap}
use Rattle.mm_move_rules.specs.{slot_of}
use Rattle.mm_move_laws.specs.{block_of}
use Rattle.mm_state.proofs.devices.put_page.Goals as goal

pub write_device-requires : goal.write_device-requires
write_device-requires g c = c.requires.slot c.in-Slot.s.0 (ap slot_of c.in-Slot.is)

pub write_device-requires-in-Block : goal.write_device-requires-in-Block
write_device-requires-in-Block g c = c.requires.block c.in-Block.b.0 (ap block_of c.in-Block.is)
