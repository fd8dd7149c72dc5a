use Rattle.std.proofs.Common.{ap, ◌∙◌, length}
use Rattle.mm_types.proofs.{same_found}
use Rattle.mm_types.specs.{Frame}
use Rattle.mm_ram.specs.{bytes_of, bytes_from}
use Rattle.mm_parts.specs.{joined_parts}
use Rattle.mm_parts.proofs.{used_step, valid_entry, words_step}
use Rattle.mm_parts.proofs.parts.Parts.read.Goals as goal

pub touch-requires : goal.touch-requires
touch-requires c = valid_entry ((joined_parts c.args.self.now).words.at c.args.place) c.frame_at-f.result c.frame_at-f.ensures.frame

pub invariant_of-self : goal.invariant_of-self
invariant_of-self c = record { kept = (words_step (joined_parts c.args.self.now) (used_step (joined_parts c.args.self.now) c.args.self.now.kept c.args.place c.args.self.now.frames.bytes) c.touch.ensures.words c.touch.ensures.ages).kept }

pub returns-clause-bytes : goal.returns-clause-bytes
returns-clause-bytes c = λ f v. c.read.ensures.bytes ∙ ap (λ (g : Frame). bytes_from (bytes_of c.args.self.now.frames.bytes g.0) c.args.off (length c.args.out.now)) (same_found _ c.frame_at-f.result f c.frame_at-f.ensures.frame v)

pub returns-clause-made : goal.returns-clause-made
returns-clause-made c = (words_step (joined_parts c.args.self.now) (used_step (joined_parts c.args.self.now) c.args.self.now.kept c.args.place c.args.self.now.frames.bytes) c.touch.ensures.words c.touch.ensures.ages).shown
