use Rattle.std.proofs.Common.{false, sym, ap, ◌∙◌, ◌-◌}
use Rattle.mm_types.specs.{Range}
use Rattle.mm_world.specs.{every_page_from}
use Rattle.mm_address_spaces.specs.{is_area_page}
use Rattle.mm_address_spaces.proofs.{not_private, kind_around, committed_told}
use Rattle.mm_address_spaces.proofs.spaces.AddressSpace.are_committed.Goals as goal

pub unreachable-requires-in_default-kind : goal.unreachable-requires-in_default-kind
unreachable-requires-in_default-kind c =
    let g = c.in-Some.region.now in
    not_private g.kind c.in_default-kind.is (kind_around c.args.self.now.regions c.args.range g c.in-Some.ensures.some false c.requires.view)

pub returns : goal.returns
returns c = λ w r v e is same.
    let g = c.in-Some.region.now in
    let u = c.in-View.view in
    let a = c.args.pages.now in
    c.are_pages_committed.ensures
    ∙ ap (λ (x : Range). every_page_from (is_area_page a u) (x.first - g.base.0) x.count) c.range.view_is
    ∙ sym (committed_told w a c.args.self.now.regions c.args.range g u c.in-Some.ensures.some r v c.in-View.is e is same)
