use Rattle.std.proofs.Common.{true}
use Rattle.mm_page_tables.proofs.{ok_then, err_then, opened_words, still_words, ages_kept, aside_kept, same_bound}
use Rattle.mm_page_tables.proofs.tables.Words.open_process.Goals as goal

pub invariant_of-self-clause-kept : goal.invariant_of-self-clause-kept
invariant_of-self-clause-kept c = aside_kept c.args.self.now.processes.items c.index_of-at.result c.index_mut.result.now c.open.new.self c.index_of-at.ensures.within c.index_mut.ensures.value c.args.pid c.index_of-at.ensures.next c.args.self.now.aside (same_bound c.index_mut.result.now c.open.new.self c.open.ensures.kept.table) c.args.self.now.kept

pub returns-clause-ok : goal.returns-clause-ok
returns-clause-ok c = ok_then c.open.result c.open.ensures.ok (λ opened. opened_words c.args.self.now.processes.items c.index_of-at.result c.index_mut.result.now c.open.new.self c.index_of-at.ensures.within c.index_mut.ensures.value c.args.pid c.index_of-at.ensures.next c.args.self.now.protos c.args.self.now.aside true opened c.open.ensures.kept)

pub returns-clause-err : goal.returns-clause-err
returns-clause-err c = err_then c.open.result c.open.ensures.err (λ same. still_words c.args.self.now.processes.items c.index_of-at.result c.index_mut.result.now c.open.new.self c.index_of-at.ensures.within c.index_mut.ensures.value c.args.pid c.index_of-at.ensures.next c.args.self.now.protos c.args.self.now.aside c.open.ensures.kept.table c.open.ensures.kept.resident same)

pub returns-clause-ages : goal.returns-clause-ages
returns-clause-ages c = ages_kept c.args.self.now.processes.items c.index_of-at.result c.index_mut.result.now c.open.new.self c.index_of-at.ensures.within c.index_mut.ensures.value c.args.pid c.index_of-at.ensures.next c.open.ensures.kept.ages
