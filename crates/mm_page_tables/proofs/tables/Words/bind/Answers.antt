use Rattle.std.proofs.Common.{ap, true, false}
use Rattle.mm_working_sets.specs.{WorkingSetOf}
use Rattle.mm_page_tables.specs.{pages, resident_set}
use Rattle.mm_page_tables.proofs.{ok_then, err_then, rebound_words, same_entries, still_words, ages_kept, aside_bind, open_there, place_reads}
use Rattle.mm_page_tables.proofs.tables.Words.bind.Goals as goal

pub index_of-at-requires : goal.index_of-at-requires
index_of-at-requires c = open_there c.args.self.now.processes.items c.args.pid.0 c.requires.open

pub bind-requires-clause-opened : goal.bind-requires-clause-opened
bind-requires-clause-opened c =
    place_reads c.args.self.now.processes.items c.index_of-at.result c.index_mut.result.now c.index_mut.result.now c.index_of-at.ensures.within c.index_mut.ensures.value c.args.pid c.index_of-at.ensures.next (λ p v. p.is_open) false true 0 c.requires.open

pub invariant_of-self-clause-kept : goal.invariant_of-self-clause-kept
invariant_of-self-clause-kept c = aside_bind c.args.self.now.processes.items c.index_of-at.result c.index_mut.result.now c.bind.new.self c.index_of-at.ensures.within c.index_mut.ensures.value c.args.pid c.index_of-at.ensures.next c.bind.result c.args.self.now.aside (pages c.args.first.0 c.args.n) c.bind.ensures.ok c.bind.ensures.err c.args.self.now.kept

pub returns-clause-ok : goal.returns-clause-ok
returns-clause-ok c = ok_then c.bind.result c.bind.ensures.ok (λ re. rebound_words c.args.self.now.processes.items c.index_of-at.result c.index_mut.result.now c.bind.new.self c.index_of-at.ensures.within c.index_mut.ensures.value c.args.pid c.index_of-at.ensures.next c.args.self.now.protos c.args.self.now.aside (pages c.args.first.0 c.args.n) true _ re (same_entries c.args.self.now.processes.items c.index_of-at.result c.index_mut.result.now c.bind.new.self c.index_of-at.ensures.within c.index_mut.ensures.value c.args.pid c.index_of-at.ensures.next c.bind.ensures.at))

pub returns-clause-err : goal.returns-clause-err
returns-clause-err c = err_then c.bind.result c.bind.ensures.err (λ same. still_words c.args.self.now.processes.items c.index_of-at.result c.index_mut.result.now c.bind.new.self c.index_of-at.ensures.within c.index_mut.ensures.value c.args.pid c.index_of-at.ensures.next c.args.self.now.protos c.args.self.now.aside same (ap resident_set c.bind.ensures.set) c.bind.ensures.opened)

pub returns-clause-ages : goal.returns-clause-ages
returns-clause-ages c = ages_kept c.args.self.now.processes.items c.index_of-at.result c.index_mut.result.now c.bind.new.self c.index_of-at.ensures.within c.index_mut.ensures.value c.args.pid c.index_of-at.ensures.next (ap (λ (s : WorkingSetOf). s.ages) c.bind.ensures.set)
