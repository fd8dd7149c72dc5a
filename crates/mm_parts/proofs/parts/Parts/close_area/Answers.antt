use Rattle.std.specs.Prelude.{None}
use Rattle.mm_parts.specs.{joined_parts}
use Rattle.mm_parts.proofs.{area_step, area_clear, words_step}
use Rattle.mm_parts.proofs.parts.Parts.close_area.Goals as goal

pub close_area-requires-clause-none : goal.close_area-requires-clause-none
close_area-requires-clause-none c = λ i. area_clear (joined_parts c.args.self.now) c.args.self.now.kept c.args.area i (c.requires.dead i)

pub invariant_of-self : goal.invariant_of-self
invariant_of-self c = record { kept = (words_step (joined_parts c.args.self.now) (area_step (joined_parts c.args.self.now) c.args.self.now.kept c.args.area.0 None (λ h. cc)) c.close_area.ensures.words c.close_area.ensures.ages).kept }

pub returns : goal.returns
returns c = record { made = (words_step (joined_parts c.args.self.now) (area_step (joined_parts c.args.self.now) c.args.self.now.kept c.args.area.0 None (λ h. cc)) c.close_area.ensures.words c.close_area.ensures.ages).shown }
