use Rattle.std.proofs.Common.{arith}
use Rattle.std.specs.Prelude.{map}
use Rattle.mm_types.specs.{page_of}
use Rattle.mm_world.specs.{unwritten}
use Rattle.mm_vad.proofs.{left_more}
use Rattle.mm_vad.proofs.regions.clear_pages.Goals as goal

pub loop-address-preserved : goal.loop-address-preserved
loop-address-preserved c =
    let addresses = c.args.addresses.now in
    let flags = c.args.flags.now in
    left_more c.args.base (unwritten c.args.base (map page_of addresses) flags) flags c.loop-address.flags c.clear.new.self addresses c.loop-address.address-index
    (omega (arith, c.loop-address-test.true)) c.loop-address.invariant c.clear.ensures
