use Rattle.std.proofs.Common.{◌-◌, false}
use Rattle.mm_address_spaces.proofs.{kind_at, not_private, view_fit, view_told, seen}
use Rattle.mm_address_spaces.proofs.spaces.AddressSpace.view_info.Goals as goal

pub unreachable-requires-in_default-kind : goal.unreachable-requires-in_default-kind
unreachable-requires-in_default-kind c =
    let g = c.in-Some.region.now in
    not_private g.kind c.in_default-kind.is (kind_at c.args.self.now.regions c.args.page g c.in-Some.ensures.some false c.requires.view)

pub state_in_view-told-requires-clause-fit : goal.state_in_view-told-requires-clause-fit
state_in_view-told-requires-clause-fit c = view_fit c.args.self.now.regions c.args.page c.in-Some.region.now c.in-Some.ensures.some c.in-View.view c.in-View.is

pub run_in_view-requires-clause-fit : goal.run_in_view-requires-clause-fit
run_in_view-requires-clause-fit c = view_fit c.args.self.now.regions c.args.page c.in-Some.region.now c.in-Some.ensures.some c.in-View.view c.in-View.is

pub returns : goal.returns
returns c = λ w r v e is same.
    let g = c.in-Some.region.now in
    let u = c.in-View.view in
    let at = c.in-Some.ensures.some in
    let a = c.args.pages.now in
    view_told c.args.self.now.regions c.args.page g at u c.in-View.is w a r v c.state_in_view-told.result c.run_in_view.result e is same
    (seen a u g.rows (c.args.page - g.base.0) c.state_in_view-told.result at.high c.state_in_view-told.ensures)
    c.run_in_view.ensures.run
