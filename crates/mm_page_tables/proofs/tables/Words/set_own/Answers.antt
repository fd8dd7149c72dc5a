use Rattle.std.proofs.Common.{◌≡◌, Bool, true, false, cond, Option, Some, None, refl, sym, ap, ◌∙◌, subst}
use Rattle.mm_types.specs.{Place}
use Rattle.mm_working_sets.specs.{WorkingSetOf}
use Rattle.mm_page_tables.specs.{Aside, Entry, aside_or, at_of, bound_in, bound_of, is_valid_entry, resident_set, is_aside, with_own, words}
use Rattle.mm_page_tables.specs.declared.layout.Entry.TheVariants as entry
use Rattle.mm_page_tables.proofs.{aside_kept, bare_plain, bound_there, entry_words, place_reads, sets_stay, ages_kept}
use Rattle.mm_page_tables.proofs.tables.Words.set_own.Goals as goal

pub invariant_of-self-clause-kept : goal.invariant_of-self-clause-kept
invariant_of-self-clause-kept c = λ a e.
    let is : record { place = c.args.place; entry = c.args.e } ≡ a = cc in
    subst (λ (x : Aside). bound_in c.args.self.now.processes.items x.place ≡ true) is c.requires.bound

pub returns-then-is_beside-clause-words : goal.returns-then-is_beside-clause-words
returns-then-is_beside-clause-words c =
    let w = words c.args.self.now in
    let beside : is_aside w.aside c.args.place ≡ true = sym c.is_beside.ensures ∙ c.if-is_beside.true in
    ap (λ (x : Entry). with_own true w c.args.place x) (bare_plain c.args.e c.requires.other)
    ∙ ap (λ (b : Bool). with_own b w c.args.place c.args.e) (sym beside)

pub index_of-at-requires : goal.index_of-at-requires
index_of-at-requires c = bound_there c.args.self.now.processes.items c.args.place c.requires.bound

pub set_entry-requires-clause-bound : goal.set_entry-requires-clause-bound
set_entry-requires-clause-bound c =
    place_reads c.args.self.now.processes.items c.index_of-at.result c.index_mut.result.now c.index_mut.result.now c.index_of-at.ensures.within c.index_mut.ensures.value c.args.place.pid c.index_of-at.ensures.next bound_of false true c.args.place.vpn.0 c.requires.bound

-- the entry of a key that is not beside the tables is the one in the table
not_beside : (o : Option Aside) (place : Place) (e : Entry) → is_aside o place ≡ false → e ≡ aside_or o place e
not_beside None place e h = refl
not_beside (Some a) place e h = ap (λ (b : Bool). cond b a.entry e) (sym h)

pub set_entry-requires-clause-invalid : goal.set_entry-requires-clause-invalid
set_entry-requires-clause-invalid c =
    let w = words c.args.self.now in
    ap is_valid_entry (place_reads c.args.self.now.processes.items c.index_of-at.result c.index_mut.result.now c.index_mut.result.now c.index_of-at.ensures.within c.index_mut.ensures.value c.args.place.pid c.index_of-at.ensures.next at_of entry.Empty _ c.args.place.vpn.0 refl
    ∙ not_beside w.aside c.args.place (w.at c.args.place) (sym c.is_beside.ensures ∙ c.if-is_beside.false)) ∙ c.requires.invalid

pub invariant_of-self-2-clause-kept : goal.invariant_of-self-2-clause-kept
invariant_of-self-2-clause-kept c = aside_kept c.args.self.now.processes.items c.index_of-at.result c.index_mut.result.now c.set_entry.new.self c.index_of-at.ensures.within c.index_mut.ensures.value c.args.place.pid c.index_of-at.ensures.next c.args.self.now.aside c.set_entry.ensures.becomes.bound c.args.self.now.kept

pub returns-clause-words : goal.returns-clause-words
returns-clause-words c =
    let elsewhere : is_aside (words c.args.self.now).aside c.args.place ≡ false = sym c.is_beside.ensures ∙ c.if-is_beside.false in
    entry_words c.args.self.now.processes.items c.index_of-at.result c.index_mut.result.now c.set_entry.new.self c.index_of-at.ensures.within c.index_mut.ensures.value c.args.place.pid c.index_of-at.ensures.next c.args.self.now.protos c.args.self.now.aside c.args.place.vpn c.args.e _ c.set_entry.ensures.becomes
    (sets_stay c.args.self.now.processes.items c.index_of-at.result c.index_mut.result.now c.set_entry.new.self c.index_of-at.ensures.within c.index_mut.ensures.value c.args.place.pid c.index_of-at.ensures.next (ap resident_set c.set_entry.ensures.set))
    ∙ ap (λ (b : Bool). with_own b (words c.args.self.now) c.args.place c.args.e) (sym elsewhere)

pub returns-clause-ages : goal.returns-clause-ages
returns-clause-ages c = ages_kept c.args.self.now.processes.items c.index_of-at.result c.index_mut.result.now c.set_entry.new.self c.index_of-at.ensures.within c.index_mut.ensures.value c.args.place.pid c.index_of-at.ensures.next (ap (λ (s : WorkingSetOf). s.ages) c.set_entry.ensures.set)
