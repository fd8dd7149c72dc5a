use Rattle.std.proofs.Common.{ap, ◌∙◌, refl, false, true}
use Rattle.mm_working_sets.specs.{WorkingSetOf}
use Rattle.mm_page_tables.specs.{pages, is_valid_entry, bound_of, at_of}
use Rattle.mm_page_tables.specs.declared.layout.Entry.TheVariants as entry
use Rattle.mm_page_tables.proofs.{rebound_words, no_entries, ages_kept, place_reads}
use Rattle.mm_page_tables.proofs.tables.Words.unbind.Goals as goal

pub unbind-requires-clause-bound : goal.unbind-requires-clause-bound
unbind-requires-clause-bound c q low high =
    place_reads c.args.self.now.processes.items c.index_of-at.result c.index_mut.result.now c.index_mut.result.now c.index_of-at.ensures.within c.index_mut.ensures.value c.args.pid c.index_of-at.ensures.next bound_of false true q (c.requires.bound q low high)

pub unbind-requires-clause-invalid : goal.unbind-requires-clause-invalid
unbind-requires-clause-invalid c q low high =
    ap is_valid_entry (place_reads c.args.self.now.processes.items c.index_of-at.result c.index_mut.result.now c.index_mut.result.now c.index_of-at.ensures.within c.index_mut.ensures.value c.args.pid c.index_of-at.ensures.next at_of entry.Empty _ q refl) ∙ c.requires.invalid q low high

pub returns-clause-words : goal.returns-clause-words
returns-clause-words c = rebound_words c.args.self.now.processes.items c.index_of-at.result c.index_mut.result.now c.unbind.new.self c.index_of-at.ensures.within c.index_mut.ensures.value c.args.pid c.index_of-at.ensures.next c.args.self.now.protos c.args.self.now.aside (pages c.args.first.0 c.args.n) false _ c.unbind.ensures.rebinds
    (no_entries c.args.self.now.processes.items c.index_of-at.result c.index_mut.result.now c.unbind.new.self c.index_of-at.ensures.within c.index_mut.ensures.value c.args.pid c.index_of-at.ensures.next (pages c.args.first.0 c.args.n) c.unbind.ensures.at)

pub returns-clause-ages : goal.returns-clause-ages
returns-clause-ages c = ages_kept c.args.self.now.processes.items c.index_of-at.result c.index_mut.result.now c.unbind.new.self c.index_of-at.ensures.within c.index_mut.ensures.value c.args.pid c.index_of-at.ensures.next (ap (λ (s : WorkingSetOf). s.ages) c.unbind.ensures.rebinds.set)
