use Rattle.mm_types.specs.{page_of}
use Rattle.mm_world.specs.{ranges_of}
use Rattle.mm_vad.specs.{range_at}
use Rattle.mm_world.proofs.{wanted_granule}
use Rattle.mm_address_spaces.proofs.{placed_gap}
use Rattle.mm_address_spaces.proofs.spaces.AddressSpace.gap_for_view.Goals as goal

pub returns-clause-free : goal.returns-clause-free
returns-clause-free c =
    placed_gap (ranges_of c.args.self.now.regions) c.args.addr (range_at (page_of c.args.addr) c.args.count) c.args.count c.placed.result c.requires.some c.requires.some (wanted_granule c.args.addr c.requires.granule) c.placed.ensures
