use Rattle.std.proofs.Common.{ap, ◌∙◌}
use Rattle.mm_page_tables.specs.{shown_leaf}
use Rattle.mm_page_tables.proofs.{shown_none}
use Rattle.mm_page_tables.proofs.leaves.Leaf.absent.Goals as goal

pub returns : goal.returns
returns c = ap shown_leaf c.new.ensures.items ∙ shown_none
