use Rattle.mm_page_tables.proofs.{placed_map, reserve_map}
use Rattle.mm_page_tables.proofs.page_tables.Table.reserve.Goals as goal
use Rattle.mm_types.proofs.{on_err}

pub returns-in_err-take_directory-clause-err : goal.returns-in_err-take_directory-clause-err
returns-in_err-take_directory-clause-err c =
    on_err c.from_residual.result (placed_map c.self.inside.leaves.items c.take_directory.new.leaves.items c.args.self.now c.self.view_is c.self.invariant c.in_err-take_directory.ensures.placed)

pub returns-in_err-place_leaves-clause-err : goal.returns-in_err-place_leaves-clause-err
returns-in_err-place_leaves-clause-err c =
    let whole = placed_map c.self.inside.leaves.items c.take_directory.new.leaves.items c.args.self.now c.self.view_is c.self.invariant c.in_ok-take_directory.ensures.placed in
    on_err c.from_residual-in_err-place_leaves.result
    (placed_map c.take_directory.new.leaves.items c.place_leaves.new.leaves.items c.args.self.now whole c.in_ok-take_directory.ensures.placed.directory c.in_err-place_leaves.ensures.placed)

pub returns-clause-ok : goal.returns-clause-ok
returns-clause-ok c =
    reserve_map c.self.inside.leaves.items c.take_directory.new.leaves.items c.place_leaves.new.leaves.items c.put_words.new.leaves.items c.args.self.now c.args.first.0 c.args.n
    c.self.view_is c.self.invariant c.in_ok-take_directory.ensures.placed c.in_ok-place_leaves.ensures.placed c.put_words.ensures
