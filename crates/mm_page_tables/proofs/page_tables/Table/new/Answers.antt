use Rattle.std.proofs.Common.{ap, ◌∙◌}
use Rattle.mm_page_tables.specs.{directory_words}
use Rattle.mm_page_tables.proofs.{words_of-none}
use Rattle.mm_page_tables.proofs.page_tables.Table.new.Goals as goal

pub returns : goal.returns
returns c = ap directory_words c.new.ensures.items ∙ words_of-none
