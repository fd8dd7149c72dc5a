use Rattle.std.proofs.Common.{arith, length, ap}
use Rattle.mm_vad.proofs.{rows_seen, length-chunks}
use Rattle.mm_vad.proofs.chunks.Chunks.count.Goals as goal

pub returns : goal.returns
returns c =
    let s = c.self.inside in
    omega (arith, c.len.ensures, s.chunks.ok.0, length-chunks s.chunks.items s.places.items, ap length (rows_seen c.self.view_is))
