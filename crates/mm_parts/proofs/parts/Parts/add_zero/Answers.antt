use Rattle.std.proofs.Common.{◌+◌, sym, ◌∙◌, arith}
use Rattle.mm_parts.specs.{joined_parts}
use Rattle.mm_parts.proofs.{step_to, keys_room, copy_none_aside, copy_bound, copy_step, set_places, add_zero_step, set_names}
use Rattle.mm_parts.proofs.parts.Parts.add_zero.Goals as goal

pub overflow_add-self : goal.overflow_add-self
overflow_add-self c = let room = keys_room (joined_parts c.args.self.now) c.args.self.now.kept c.args.key c.requires.legal in omega (arith, room)

pub put_aside-requires-clause-none : goal.put_aside-requires-clause-none
put_aside-requires-clause-none c = copy_none_aside (joined_parts c.args.self.now) c.args.self.now.kept c.args.key c.in-Some.place (sym c.copy_place.ensures ∙ c.in-Some.is) c.requires.legal c.requires.clear

pub put_aside-requires-clause-bound : goal.put_aside-requires-clause-bound
put_aside-requires-clause-bound c = copy_bound (joined_parts c.args.self.now) c.args.key c.in-Some.place (sym c.copy_place.ensures ∙ c.in-Some.is) c.requires.home

pub set_word-requires-clause-places : goal.set_word-requires-clause-places
set_word-requires-clause-places c = set_places (joined_parts c.args.self.now) c.args.self.now.kept c.args.key (sym c.copy_place.ensures ∙ c.in-None.is) c.requires.legal c.requires.clear

pub invariant_of-self : goal.invariant_of-self
invariant_of-self c =
    let s = c.args.self.now in
    record { kept = (step_to _ _ _ (λ i. record (joined_parts s) { line = record (joined_parts s).line { paging_keys = s.paging_keys + 1 }; words = c.put_aside.ensures.words i; ages = c.put_aside.ensures.ages i }) (copy_step (joined_parts s) s.kept c.args.key c.in-Some.place (sym c.copy_place.ensures ∙ c.in-Some.is) c.requires.legal c.requires.home c.requires.clear)).kept }

pub returns-in-Some : goal.returns-in-Some
returns-in-Some c =
    let s = c.args.self.now in
    record { made = (step_to _ _ _ (λ i. record (joined_parts s) { line = record (joined_parts s).line { paging_keys = s.paging_keys + 1 }; words = c.put_aside.ensures.words i; ages = c.put_aside.ensures.ages i }) (copy_step (joined_parts s) s.kept c.args.key c.in-Some.place (sym c.copy_place.ensures ∙ c.in-Some.is) c.requires.legal c.requires.home c.requires.clear)).shown }

pub invariant_of-self-in-None : goal.invariant_of-self-in-None
invariant_of-self-in-None c =
    let s = c.args.self.now in
    record { kept = (step_to _ _ _ (λ i. record (joined_parts s) { line = record (joined_parts s).line { paging_keys = s.paging_keys + 1 }; words = c.set_word.ensures.words i; ages = c.set_word.ensures.ages i }) (add_zero_step (joined_parts s) s.kept c.args.key c.requires.legal (set_names (joined_parts s) c.args.key (sym c.copy_place.ensures ∙ c.in-None.is) c.requires.clear))).kept }

pub returns-in-None : goal.returns-in-None
returns-in-None c =
    let s = c.args.self.now in
    record { made = (step_to _ _ _ (λ i. record (joined_parts s) { line = record (joined_parts s).line { paging_keys = s.paging_keys + 1 }; words = c.set_word.ensures.words i; ages = c.set_word.ensures.ages i }) (add_zero_step (joined_parts s) s.kept c.args.key c.requires.legal (set_names (joined_parts s) c.args.key (sym c.copy_place.ensures ∙ c.in-None.is) c.requires.clear))).shown }
