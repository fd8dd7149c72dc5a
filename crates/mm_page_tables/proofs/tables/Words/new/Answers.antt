use Rattle.mm_page_tables.proofs.{new_shown}
use Rattle.mm_page_tables.proofs.tables.Words.new.Goals as goal

pub returns-clause-words : goal.returns-clause-words
returns-clause-words c = new_shown c.in_ok-processes.processes.items c.new.result c.in_ok-processes.ensures.items c.new.ensures
