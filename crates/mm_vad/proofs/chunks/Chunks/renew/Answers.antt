use Rattle.std.proofs.Common.{arith}
use Rattle.mm_vad.proofs.{room_seen, chunks_made, rows_made}
use Rattle.mm_vad.proofs.chunks.Chunks.renew.Goals as goal

pub invariant_of-self : goal.invariant_of-self
invariant_of-self c =
    chunks_made c.refill.new.list.items c.clear.new.self.items c.args.count _ c.args.row c.refill.ensures.items c.clear.ensures.items
    (omega (arith, c.requires.room, room_seen c.self.view_is, c.clear.ensures.capacity)) c.requires.few

pub returns-clause-rows : goal.returns-clause-rows
returns-clause-rows c = rows_made c.refill.new.list.items c.clear.new.self.items c.args.count c.args.row c.refill.ensures.items
