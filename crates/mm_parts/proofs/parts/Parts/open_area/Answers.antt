use Rattle.std.proofs.Common.{Some}
use Rattle.mm_parts.specs.{joined_parts}
use Rattle.mm_parts.proofs.{words_done, area_step}
use Rattle.mm_parts.proofs.parts.Parts.open_area.Goals as goal

pub invariant_of-self : goal.invariant_of-self
invariant_of-self c = record { kept = (words_done c.open_area.result (joined_parts c.args.self.now) c.args.self.now.kept (area_step (joined_parts c.args.self.now) c.args.self.now.kept c.args.area.0 (Some c.args.n) (λ h. c.requires.few)) c.open_area.ensures.ok c.open_area.ensures.err c.open_area.ensures.ages).kept }

pub returns-clause-ok : goal.returns-clause-ok
returns-clause-ok c = (words_done c.open_area.result (joined_parts c.args.self.now) c.args.self.now.kept (area_step (joined_parts c.args.self.now) c.args.self.now.kept c.args.area.0 (Some c.args.n) (λ h. c.requires.few)) c.open_area.ensures.ok c.open_area.ensures.err c.open_area.ensures.ages).ok

pub returns-clause-err : goal.returns-clause-err
returns-clause-err c = (words_done c.open_area.result (joined_parts c.args.self.now) c.args.self.now.kept (area_step (joined_parts c.args.self.now) c.args.self.now.kept c.args.area.0 (Some c.args.n) (λ h. c.requires.few)) c.open_area.ensures.ok c.open_area.ensures.err c.open_area.ensures.ages).err
