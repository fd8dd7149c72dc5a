use Rattle.std.specs.Prelude.{◌==◌, false}
use Rattle.mm_move_rules.specs.{changed}
use Rattle.mm_parts.specs.{joined_parts}
use Rattle.mm_parts.proofs.{open_step, words_step}
use Rattle.mm_parts.proofs.parts.Parts.close_process.Goals as goal

pub invariant_of-self : goal.invariant_of-self
invariant_of-self c = record { kept = (words_step (joined_parts c.args.self.now) (open_step (joined_parts c.args.self.now) c.args.self.now.kept (changed ◌==◌ (joined_parts c.args.self.now).words.is_open c.args.pid.0 false)) c.close_process.ensures.words c.close_process.ensures.ages).kept }

pub returns : goal.returns
returns c = record { made = (words_step (joined_parts c.args.self.now) (open_step (joined_parts c.args.self.now) c.args.self.now.kept (changed ◌==◌ (joined_parts c.args.self.now).words.is_open c.args.pid.0 false)) c.close_process.ensures.words c.close_process.ensures.ages).shown }
