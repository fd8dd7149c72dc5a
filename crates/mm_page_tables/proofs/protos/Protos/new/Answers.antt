use Rattle.std.proofs.Common.{ap, ◌∙◌}
use Rattle.mm_types.specs.{table}
use Rattle.mm_page_tables.specs.{words_in}
use Rattle.mm_page_tables.proofs.{table_none}
use Rattle.mm_page_tables.proofs.protos.Protos.new.Goals as goal

pub returns : goal.returns
returns c = ap (table words_in) c.new.ensures.items ∙ table_none words_in
