use Rattle.std.proofs.Common.{ap, ◌∙◌}
use Rattle.mm_types.specs.{Range}
use Rattle.mm_vad.specs.{range_at}
use Rattle.mm_world.specs.{view_region}
use Rattle.mm_address_spaces.proofs.{view_made, view_fits}
use Rattle.mm_address_spaces.proofs.new_regions.NewRegion.view.Goals as goal

pub returns-clause-ok : goal.returns-clause-ok
returns-clause-ok c = λ s place area. (
    view_made c.args.view c.first_prot.result (range_at c.range.inside.first c.range.inside.count) c.in_ok-rows.rows c.view_row.result c.view_row.ensures c.first_prot.ensures c.in_ok-rows.ensures s place area
    ∙ ap (λ (r : Range). view_region s c.args.view.access c.args.view.first r) c.range.view_is)

pub returns-clause-fit : goal.returns-clause-fit
returns-clause-fit c =
    view_fits c.args.view c.first_prot.result (range_at c.range.inside.first c.range.inside.count) c.in_ok-rows.rows c.view_row.result c.view_row.ensures c.first_prot.ensures c.in_ok-rows.ensures
