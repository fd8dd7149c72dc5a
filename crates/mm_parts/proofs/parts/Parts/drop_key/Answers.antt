use Rattle.std.proofs.Common.{◌-◌, sym, ap, ◌∙◌}
use Rattle.mm_move_rules.specs.{freed}
use Rattle.mm_parts.specs.{joined_parts}
use Rattle.mm_parts.proofs.{step_to, drop_told_step, drop_frees, drop_released, drop_calm, drop_some, drop_there}
use Rattle.mm_parts.proofs.parts.Parts.drop_key.Goals as goal

pub word-requires : goal.word-requires
word-requires c = c.words_hold.ensures.there c.args.key (drop_there (joined_parts c.args.self.now) c.args.self.now.kept c.args.key c.requires.legal)

pub release-slot-requires : goal.release-slot-requires
release-slot-requires c = drop_released (joined_parts c.args.self.now) c.args.self.now.kept c.args.key c.word.result c.word.ensures

pub give_back-requires : goal.give_back-requires
give_back-requires c = λ t e. drop_frees (joined_parts c.args.self.now) c.args.self.now.kept c.args.key c.word.result c.word.ensures t (sym c.release-slot.ensures.slot ∙ e)

pub set_word-requires-clause-places : goal.set_word-requires-clause-places
set_word-requires-clause-places c = drop_calm (joined_parts c.args.self.now) c.args.self.now.kept c.args.key c.requires.legal

pub overflow_sub-self : goal.overflow_sub-self
overflow_sub-self c = drop_some (joined_parts c.args.self.now) c.args.self.now.kept c.args.key c.requires.legal

pub invariant_of-self : goal.invariant_of-self
invariant_of-self c =
    let s = c.args.self.now in
    let free = c.give_back.ensures ∙ ap (freed s.slots.free) c.release-slot.ensures.slot in
    record { kept = (step_to _ _ _ (λ i. record (joined_parts s) { line = record (joined_parts s).line { paging_keys = s.paging_keys - 1 }; table = c.release-slot.ensures.table i; bytes = c.release-slot.ensures.bytes i; free = free i; words = c.set_word.ensures.words i; ages = c.set_word.ensures.ages i }) (drop_told_step (joined_parts s) s.kept c.args.key c.requires.legal c.word.result c.word.ensures)).kept }

pub returns : goal.returns
returns c =
    let s = c.args.self.now in
    let free = c.give_back.ensures ∙ ap (freed s.slots.free) c.release-slot.ensures.slot in
    record { made = (step_to _ _ _ (λ i. record (joined_parts s) { line = record (joined_parts s).line { paging_keys = s.paging_keys - 1 }; table = c.release-slot.ensures.table i; bytes = c.release-slot.ensures.bytes i; free = free i; words = c.set_word.ensures.words i; ages = c.set_word.ensures.ages i }) (drop_told_step (joined_parts s) s.kept c.args.key c.requires.legal c.word.result c.word.ensures)).shown }
