use Rattle.mm_types.specs.declared.views.Kind.TheVariants as kind
use Rattle.mm_address_spaces.proofs.{view_low, state_read}
use Rattle.mm_address_spaces.proofs.queries.state_in_view.Goals as goal

pub told_of_row-requires : goal.told_of_row-requires
told_of_row-requires c = view_low c.args.view c.args.rows.now c.args.index c.get-row.result c.requires.fit c.get-row.ensures

pub returns : goal.returns
returns c = λ row e.
    state_read c.args.pages.now c.args.view c.args.rows.now c.args.index c.get-row.result row c.told_of_row.result c.is_page_committed.result c.get-row.ensures e (c.told_of_row.ensures (kind.View c.args.view)) c.is_page_committed.ensures
