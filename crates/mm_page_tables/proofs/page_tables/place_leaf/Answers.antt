use Rattle.std.proofs.Common.{◌≡◌, true, false, sym, ◌∙◌, arith}
use Rattle.mm_page_tables.proofs.{placed_leaf}
use Rattle.mm_page_tables.proofs.page_tables.place_leaf.Goals as goal

pub returns-in_ok-leaves-clause-placed : goal.returns-in_ok-leaves-clause-placed
returns-in_ok-leaves-clause-placed c =
    placed_leaf c.args.leaves.now.items c.args.page c.index.result.now c.in_ok-leaves.field-0 c.requires.directory (omega arith) c.index.ensures (λ some. (let bad : false ≡ true = sym c.if-not-is_present.true ∙ c.is_present.ensures.1 some in cc)) c.in_ok-leaves.ensures
