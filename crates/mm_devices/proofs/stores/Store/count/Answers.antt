use Rattle.std.proofs.Common.{arith, length, ap}
use Rattle.std.proofs.lemmas.List.{length-map}
use Rattle.mm_devices.specs.{block_bytes}
use Rattle.mm_devices.proofs.stores.Store.count.Goals as goal

pub returns : goal.returns
returns c =
    let s = c.self.inside in
    omega (arith, c.len.ensures, s.blocks.ok.0, length-map s.blocks.items block_bytes, ap length c.self.view_is)
