use Rattle.mm_page_tables.proofs.{aged, young, bound_open, begun}
use Rattle.mm_page_tables.proofs.SetLaws.{within}
use Rattle.mm_page_tables.proofs.tables.Words.working_sets_hold.Goals as goal

pub returns-clause-aged : goal.returns-clause-aged
returns-clause-aged c = aged c.args.self.now.processes.items

pub returns-clause-young : goal.returns-clause-young
returns-clause-young c = young c.args.self.now.processes.items

pub returns-clause-open : goal.returns-clause-open
returns-clause-open c = bound_open c.args.self.now.processes.items

pub returns-clause-begun : goal.returns-clause-begun
returns-clause-begun c = begun c.args.self.now.processes.items

pub returns-clause-within : goal.returns-clause-within
returns-clause-within c = within c.args.self.now.processes.items
