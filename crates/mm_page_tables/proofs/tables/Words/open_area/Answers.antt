use Rattle.mm_page_tables.proofs.{opened_shown, ok_then}
use Rattle.mm_page_tables.proofs.tables.Words.open_area.Goals as goal

pub returns-clause-ok : goal.returns-clause-ok
returns-clause-ok c = ok_then c.open.result c.open.ensures.ok (λ is. opened_shown c.args.self.now.processes.items c.args.self.now.protos c.open.new.self c.args.self.now.aside c.args.a.0 c.args.n c.requires is)
