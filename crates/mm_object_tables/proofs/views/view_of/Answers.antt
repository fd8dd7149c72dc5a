use Rattle.std.proofs.Common.{◌≡◌, ◌∙◌, sym, ap, true, false}
use Rattle.mm_world.specs.{is_private}
use Rattle.mm_object_tables.proofs.{info_inside, info_of_view}
use Rattle.mm_object_tables.proofs.views.view_of.Goals as goal

pub pages_before-requires : goal.pages_before-requires
pages_before-requires c = info_inside c.args.space.now.regions c.args.range c.in-Some.region (sym c.in-Some.ensures.found)

pub unreachable-requires : goal.unreachable-requires
unreachable-requires c =
    let bad : true ≡ false = sym (ap is_private c.in-Private.is) ∙ info_of_view c.args.space.now.regions c.args.range c.in-Some.region (sym c.in-Some.ensures.found) c.requires.view in
    cc
