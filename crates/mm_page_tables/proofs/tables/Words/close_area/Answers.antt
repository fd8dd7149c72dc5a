use Rattle.mm_page_tables.proofs.{closed_shown}
use Rattle.mm_page_tables.proofs.tables.Words.close_area.Goals as goal

pub returns-clause-words : goal.returns-clause-words
returns-clause-words c = closed_shown c.args.self.now.processes.items c.args.self.now.protos c.close.new.self c.args.self.now.aside c.args.a.0 c.requires.none c.close.ensures
