use Rattle.std.proofs.Common.{◌∙◌, sym}
use Rattle.std.specs.Prelude.{◌==◌}
use Rattle.mm_types.specs.{address_of}
use Rattle.mm_world.specs.{RegionOf}
use Rattle.mm_calls.proofs.{told_view}
use Rattle.mm_calls.proofs.views.unmap.Goals as goal

pub view_of-view-requires : goal.view_of-view-requires
view_of-view-requires g c =
    record { view = told_view (λ (r : RegionOf (Unit {0})). address_of r.base == c.args.addr) c.space.result.now.regions c.in-Some.region (sym c.view_at.ensures.found ∙ c.in-Some.is) }
