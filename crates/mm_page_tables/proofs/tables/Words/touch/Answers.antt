use Rattle.std.proofs.Common.{Some, refl, ap, ◌∙◌}
use Rattle.mm_page_tables.specs.{at_of, is_valid_entry}
use Rattle.mm_page_tables.specs.declared.layout.Entry.TheVariants as entry
use Rattle.mm_page_tables.proofs.{aside_kept, still_words, ages_changed, place_reads, same_bound, valid_there}
use Rattle.mm_page_tables.proofs.tables.Words.touch.Goals as goal

pub index_of-at-requires : goal.index_of-at-requires
index_of-at-requires c = valid_there c.args.self.now.processes.items c.args.place c.requires

pub touch-requires : goal.touch-requires
touch-requires c =
    ap is_valid_entry (place_reads c.args.self.now.processes.items c.index_of-at.result c.index_mut.result.now c.index_mut.result.now c.index_of-at.ensures.within c.index_mut.ensures.value c.args.place.pid c.index_of-at.ensures.next at_of entry.Empty _ c.args.place.vpn.0 refl) ∙ c.requires

pub invariant_of-self-clause-kept : goal.invariant_of-self-clause-kept
invariant_of-self-clause-kept c = aside_kept c.args.self.now.processes.items c.index_of-at.result c.index_mut.result.now c.touch.new.self c.index_of-at.ensures.within c.index_mut.ensures.value c.args.place.pid c.index_of-at.ensures.next c.args.self.now.aside (same_bound c.index_mut.result.now c.touch.new.self c.touch.ensures.table) c.args.self.now.kept

pub returns-clause-words : goal.returns-clause-words
returns-clause-words c = still_words c.args.self.now.processes.items c.index_of-at.result c.index_mut.result.now c.touch.new.self c.index_of-at.ensures.within c.index_mut.ensures.value c.args.place.pid c.index_of-at.ensures.next c.args.self.now.protos c.args.self.now.aside c.touch.ensures.table c.touch.ensures.resident c.touch.ensures.opened

pub returns-clause-ages : goal.returns-clause-ages
returns-clause-ages c = ages_changed c.args.self.now.processes.items c.index_of-at.result c.index_mut.result.now c.touch.new.self c.index_of-at.ensures.within c.index_mut.ensures.value c.args.place.pid c.index_of-at.ensures.next c.args.place.vpn (Some 0) c.touch.ensures.ages
