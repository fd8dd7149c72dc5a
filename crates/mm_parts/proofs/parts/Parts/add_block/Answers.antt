use Rattle.std.specs.Prelude.{true, slice_set}
use Rattle.mm_parts.specs.{joined_parts}
use Rattle.mm_parts.proofs.{step_to, add_block_step}
use Rattle.mm_parts.proofs.parts.Parts.add_block.Goals as goal

pub invariant_of-self : goal.invariant_of-self
invariant_of-self c =
    let s = c.args.self.now in
    record { kept = (step_to _ _ _ (λ i. record (joined_parts s) { line = record (joined_parts s).line { added = slice_set s.added.items c.args.b.0 true }; words = c.set_word.ensures.words i; ages = c.set_word.ensures.ages i }) (add_block_step (joined_parts s) s.kept c.args.key c.args.b c.requires.legal)).kept }

pub returns : goal.returns
returns c =
    let s = c.args.self.now in
    record { made = (step_to _ _ _ (λ i. record (joined_parts s) { line = record (joined_parts s).line { added = slice_set s.added.items c.args.b.0 true }; words = c.set_word.ensures.words i; ages = c.set_word.ensures.ages i }) (add_block_step (joined_parts s) s.kept c.args.key c.args.b c.requires.legal)).shown }
