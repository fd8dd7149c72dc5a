use Rattle.mm_page_tables.proofs.{pushed_words, pushed_ages, pushed_aside}
use Rattle.mm_page_tables.proofs.tables.Words.begin_process.Goals as goal

pub invariant_of-self-clause-kept : goal.invariant_of-self-clause-kept
invariant_of-self-clause-kept c = pushed_aside c.args.self.now.processes.items c.begin-process.result c.args.min c.args.max c.begin-process.ensures c.push_reserved.new.self.items c.push_reserved.ensures.items c.args.self.now.aside c.args.self.now.kept

pub returns-clause-words : goal.returns-clause-words
returns-clause-words c = pushed_words c.args.self.now.processes.items c.begin-process.result c.args.min c.args.max c.begin-process.ensures c.push_reserved.new.self.items c.push_reserved.ensures.items c.args.self.now.protos c.args.self.now.aside

pub returns-clause-ages : goal.returns-clause-ages
returns-clause-ages c = pushed_ages c.args.self.now.processes.items c.begin-process.result c.args.min c.args.max c.begin-process.ensures c.push_reserved.new.self.items c.push_reserved.ensures.items
