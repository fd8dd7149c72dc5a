use Rattle.mm_page_tables.specs.{WordsOf, without_aside, bare_aside, bound_of, at_of, is_valid_entry}
use Rattle.std.proofs.Common.{true, false, refl, ap, sym, ◌∙◌, Some, ◌+◌}
use Rattle.std.proofs.lemmas.Bool.{ltb-true}
use Rattle.mm_move_rules.specs.{is_below_max}
use Rattle.mm_page_tables.specs.declared.layout.Entry.TheVariants as entry
use Rattle.mm_page_tables.proofs.{aside_kept, bound_there, entry_words, place_reads, set_at_index, sets_move, ages_changed}
use Rattle.mm_page_tables.proofs.tables.Words.make_valid.Goals as goal

pub index_of-at-requires : goal.index_of-at-requires
index_of-at-requires c = bound_there c.args.self.now.processes.items c.args.place c.requires.bound

pub make_valid-requires-clause-bound : goal.make_valid-requires-clause-bound
make_valid-requires-clause-bound c =
    place_reads c.args.self.now.processes.items c.index_of-at.result c.index_mut.result.now c.index_mut.result.now c.index_of-at.ensures.within c.index_mut.ensures.value c.args.place.pid c.index_of-at.ensures.next bound_of false true c.args.place.vpn.0 c.requires.bound

pub make_valid-requires-clause-invalid : goal.make_valid-requires-clause-invalid
make_valid-requires-clause-invalid c =
    ap is_valid_entry (place_reads c.args.self.now.processes.items c.index_of-at.result c.index_mut.result.now c.index_mut.result.now c.index_of-at.ensures.within c.index_mut.ensures.value c.args.place.pid c.index_of-at.ensures.next at_of entry.Empty _ c.args.place.vpn.0 refl) ∙ c.requires.invalid

pub make_valid-requires-clause-room : goal.make_valid-requires-clause-room
make_valid-requires-clause-room c =
    let set = set_at_index c.args.self.now.processes.items c.index_of-at.result c.index_mut.result.now c.index_mut.result.now c.index_of-at.ensures.within c.index_mut.ensures.value c.args.place.pid c.index_of-at.ensures.next in
    ltb-true _ _ (ap is_below_max (sym set) ∙ c.requires.room)

pub invariant_of-self-clause-kept : goal.invariant_of-self-clause-kept
invariant_of-self-clause-kept c = aside_kept c.args.self.now.processes.items c.index_of-at.result c.index_mut.result.now c.make_valid.new.self c.index_of-at.ensures.within c.index_mut.ensures.value c.args.place.pid c.index_of-at.ensures.next c.args.self.now.aside c.make_valid.ensures.becomes.bound c.args.self.now.kept

pub returns-clause-words : goal.returns-clause-words
returns-clause-words c = c.forget_aside.ensures.words ∙ ap (λ (w : WordsOf). record w { aside = without_aside (bare_aside c.args.self.now.aside) c.args.place })
    (entry_words c.args.self.now.processes.items c.index_of-at.result c.index_mut.result.now c.make_valid.new.self c.index_of-at.ensures.within c.index_mut.ensures.value c.args.place.pid c.index_of-at.ensures.next c.args.self.now.protos c.args.self.now.aside c.args.place.vpn (entry.Valid c.args.f 0) _ c.make_valid.ensures.becomes
    (sets_move c.args.self.now.processes.items c.index_of-at.result c.index_mut.result.now c.make_valid.new.self c.index_of-at.ensures.within c.index_mut.ensures.value c.args.place.pid c.index_of-at.ensures.next (λ n. n + 1) c.make_valid.ensures.resident))

pub returns-clause-ages : goal.returns-clause-ages
returns-clause-ages c = c.forget_aside.ensures.ages ∙ ages_changed c.args.self.now.processes.items c.index_of-at.result c.index_mut.result.now c.make_valid.new.self c.index_of-at.ensures.within c.index_mut.ensures.value c.args.place.pid c.index_of-at.ensures.next c.args.place.vpn (Some 0) c.make_valid.ensures.ages
