use Rattle.mm_working_sets.specs.{older}
use Rattle.mm_page_tables.proofs.{still_words, older_ages, aside_kept, same_bound}
use Rattle.mm_page_tables.proofs.tables.Words.age_all.Goals as goal

pub invariant_of-self-clause-kept : goal.invariant_of-self-clause-kept
invariant_of-self-clause-kept c = aside_kept c.args.self.now.processes.items c.index_of-at.result c.index_mut.result.now c.age_all.new.self c.index_of-at.ensures.within c.index_mut.ensures.value c.args.pid c.index_of-at.ensures.next c.args.self.now.aside (same_bound c.index_mut.result.now c.age_all.new.self c.age_all.ensures.table) c.args.self.now.kept

pub returns-clause-words : goal.returns-clause-words
returns-clause-words c = still_words c.args.self.now.processes.items c.index_of-at.result c.index_mut.result.now c.age_all.new.self c.index_of-at.ensures.within c.index_mut.ensures.value c.args.pid c.index_of-at.ensures.next c.args.self.now.protos c.args.self.now.aside c.age_all.ensures.table c.age_all.ensures.resident c.age_all.ensures.opened

pub returns-clause-ages : goal.returns-clause-ages
returns-clause-ages c = older_ages c.args.self.now.processes.items c.index_of-at.result c.index_mut.result.now c.age_all.new.self c.index_of-at.ensures.within c.index_mut.ensures.value c.args.pid c.index_of-at.ensures.next older c.age_all.ensures.ages
