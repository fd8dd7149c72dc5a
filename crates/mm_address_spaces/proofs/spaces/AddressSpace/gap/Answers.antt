use Rattle.std.proofs.Common.{ap, ◌∙◌, arith}
use Rattle.mm_types.specs.{Range, granule_range_of, pages_for}
use Rattle.mm_world.specs.{ranges_of, placed}
use Rattle.mm_address_spaces.proofs.{placed_gap}
use Rattle.mm_address_spaces.proofs.spaces.AddressSpace.gap.Goals as goal

pub returns-clause-free : goal.returns-clause-free
returns-clause-free c =
    let taken = ranges_of c.args.self.now.regions in
    placed_gap taken c.args.addr (granule_range_of c.args.addr c.args.size) (pages_for c.args.size) c.placed.result (omega (arith, c.requires.some)) (omega (arith, c.requires.some)) (omega arith)
    (c.placed.ensures
    ∙ ap (λ (r : Range). placed taken c.args.addr r c.pages_for.result) c.from_granule.ensures
    ∙ ap (λ n. placed taken c.args.addr (granule_range_of c.args.addr c.args.size) n) c.pages_for.ensures.pages)
