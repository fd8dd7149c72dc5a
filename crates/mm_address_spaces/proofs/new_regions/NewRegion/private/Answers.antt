use Rattle.std.proofs.Common.{ap, ◌∙◌}
use Rattle.mm_types.specs.{Range}
use Rattle.mm_world.specs.{blank, private_region}
use Rattle.mm_vad.specs.{range_at}
use Rattle.mm_address_spaces.proofs.{region_made, made_fits}
use Rattle.mm_address_spaces.proofs.new_regions.NewRegion.private.Goals as goal

pub returns-clause-ok : goal.returns-clause-ok
returns-clause-ok c =
    region_made c.args.watched c.args.alloc_type c.args.prot (range_at c.range.inside.first c.range.inside.count) c.in_ok-rows.rows c.in_ok-flags.flags c.new_row.result c.new_row.ensures c.in_ok-rows.ensures c.in_ok-flags.ensures
    ∙ ap (λ (r : Range). private_region blank c.args.watched c.args.alloc_type c.args.prot r) c.range.view_is

pub returns-clause-fit : goal.returns-clause-fit
returns-clause-fit c =
    made_fits c.args.watched c.args.alloc_type c.args.prot (range_at c.range.inside.first c.range.inside.count) c.in_ok-rows.rows c.in_ok-flags.flags c.new_row.result c.new_row.ensures c.in_ok-rows.ensures c.in_ok-flags.ensures c.requires.prot
