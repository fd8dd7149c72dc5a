use Rattle.mm_ram.specs.{bytes_of, with_page}
use Rattle.mm_parts.specs.{joined_parts}
use Rattle.mm_parts.proofs.{step_to, bytes_step}
use Rattle.mm_parts.proofs.parts.Parts.copy.Goals as goal

pub invariant_of-self : goal.invariant_of-self
invariant_of-self c = record { kept = (step_to _ _ _ (λ i. record (joined_parts c.args.self.now) { table = (c.copy.ensures.copied i).table; bytes = (c.copy.ensures.copied i).bytes }) (bytes_step (joined_parts c.args.self.now) c.args.self.now.kept (with_page c.args.self.now.frames.bytes c.args.to.0 (bytes_of c.args.self.now.frames.bytes c.args.from.0)))).kept }

pub returns-clause-made : goal.returns-clause-made
returns-clause-made c = (step_to _ _ _ (λ i. record (joined_parts c.args.self.now) { table = (c.copy.ensures.copied i).table; bytes = (c.copy.ensures.copied i).bytes }) (bytes_step (joined_parts c.args.self.now) c.args.self.now.kept (with_page c.args.self.now.frames.bytes c.args.to.0 (bytes_of c.args.self.now.frames.bytes c.args.from.0)))).shown
