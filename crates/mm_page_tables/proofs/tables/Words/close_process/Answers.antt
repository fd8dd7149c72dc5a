use Rattle.std.proofs.Common.{false}
use Rattle.mm_page_tables.specs.{bound_of}
use Rattle.mm_page_tables.proofs.{opened_words, ages_kept, aside_kept, same_bound, place_reads}
use Rattle.mm_page_tables.proofs.tables.Words.close_process.Goals as goal

pub close-requires : goal.close-requires
close-requires c q =
    place_reads c.args.self.now.processes.items c.index_of-at.result c.index_mut.result.now c.index_mut.result.now c.index_of-at.ensures.within c.index_mut.ensures.value c.args.pid c.index_of-at.ensures.next bound_of false false q (c.requires.unbound q)

pub invariant_of-self-clause-kept : goal.invariant_of-self-clause-kept
invariant_of-self-clause-kept c = aside_kept c.args.self.now.processes.items c.index_of-at.result c.index_mut.result.now c.close.new.self c.index_of-at.ensures.within c.index_mut.ensures.value c.args.pid c.index_of-at.ensures.next c.args.self.now.aside (same_bound c.index_mut.result.now c.close.new.self c.close.ensures.kept.table) c.args.self.now.kept

pub returns-clause-words : goal.returns-clause-words
returns-clause-words c = opened_words c.args.self.now.processes.items c.index_of-at.result c.index_mut.result.now c.close.new.self c.index_of-at.ensures.within c.index_mut.ensures.value c.args.pid c.index_of-at.ensures.next c.args.self.now.protos c.args.self.now.aside false c.close.ensures.opened c.close.ensures.kept

pub returns-clause-ages : goal.returns-clause-ages
returns-clause-ages c = ages_kept c.args.self.now.processes.items c.index_of-at.result c.index_mut.result.now c.close.new.self c.index_of-at.ensures.within c.index_mut.ensures.value c.args.pid c.index_of-at.ensures.next c.close.ensures.kept.ages
