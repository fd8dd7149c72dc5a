use Rattle.std.proofs.Common.{None, refl, ap, ◌-◌, ◌∙◌}
use Rattle.mm_page_tables.specs.{at_of, is_valid_entry}
use Rattle.mm_page_tables.specs.declared.layout.Entry.TheVariants as entry
use Rattle.mm_page_tables.proofs.{aside_kept, entry_words, sets_move, ages_changed, place_reads, valid_there}
use Rattle.mm_page_tables.proofs.tables.Words.make_invalid.Goals as goal

pub index_of-at-requires : goal.index_of-at-requires
index_of-at-requires c = valid_there c.args.self.now.processes.items c.args.place c.requires.valid

pub make_invalid-requires-clause-valid : goal.make_invalid-requires-clause-valid
make_invalid-requires-clause-valid c =
    ap is_valid_entry (place_reads c.args.self.now.processes.items c.index_of-at.result c.index_mut.result.now c.index_mut.result.now c.index_of-at.ensures.within c.index_mut.ensures.value c.args.place.pid c.index_of-at.ensures.next at_of entry.Empty _ c.args.place.vpn.0 refl) ∙ c.requires.valid

pub invariant_of-self-clause-kept : goal.invariant_of-self-clause-kept
invariant_of-self-clause-kept c = aside_kept c.args.self.now.processes.items c.index_of-at.result c.index_mut.result.now c.make_invalid.new.self c.index_of-at.ensures.within c.index_mut.ensures.value c.args.place.pid c.index_of-at.ensures.next c.args.self.now.aside c.make_invalid.ensures.becomes.bound c.args.self.now.kept

pub returns-clause-words : goal.returns-clause-words
returns-clause-words c = entry_words c.args.self.now.processes.items c.index_of-at.result c.index_mut.result.now c.make_invalid.new.self c.index_of-at.ensures.within c.index_mut.ensures.value c.args.place.pid c.index_of-at.ensures.next c.args.self.now.protos c.args.self.now.aside c.args.place.vpn c.args.e _ c.make_invalid.ensures.becomes
    (sets_move c.args.self.now.processes.items c.index_of-at.result c.index_mut.result.now c.make_invalid.new.self c.index_of-at.ensures.within c.index_mut.ensures.value c.args.place.pid c.index_of-at.ensures.next (λ n. n - 1) c.make_invalid.ensures.resident)

pub returns-clause-ages : goal.returns-clause-ages
returns-clause-ages c = ages_changed c.args.self.now.processes.items c.index_of-at.result c.index_mut.result.now c.make_invalid.new.self c.index_of-at.ensures.within c.index_mut.ensures.value c.args.place.pid c.index_of-at.ensures.next c.args.place.vpn None c.make_invalid.ensures.ages
