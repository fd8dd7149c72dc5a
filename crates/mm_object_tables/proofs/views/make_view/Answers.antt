use Rattle.std.proofs.Common.{◌∙◌, ap, refl, arith}
use Rattle.mm_types.proofs.{on_err}
use Rattle.mm_world.specs.{add_region}
use Rattle.mm_object_tables.specs.{section_of_view}
use Rattle.mm_object_tables.proofs.{idle}
use Rattle.mm_object_tables.proofs.views.make_view.Goals as goal

pub returns-in_err-region-clause-idles : goal.returns-in_err-region-clause-idles
returns-in_err-region-clause-idles g c = record { contents = refl; passes = idle g.G.PageStore c.args.g.now; loans = refl }

pub returns-in_err-region-clause-err : goal.returns-in_err-region-clause-err
returns-in_err-region-clause-err g c = on_err c.from_residual.result (record { store = refl; later = omega arith })

pub returns-in-Ok-clause-regions : goal.returns-in-Ok-clause-regions
returns-in-Ok-clause-regions g c =
    c.add.ensures.added ∙ ap (λ rs. add_region c.in_ok-region.region rs) c.grow_for_region.ensures.regions
    ∙ ap (λ r. add_region r c.args.space.now.regions) (c.in_ok-region.ensures.ok (section_of_view c.args.view) refl refl)
