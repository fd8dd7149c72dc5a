use Rattle.std.specs.Prelude.{◌==◌, true}
use Rattle.mm_move_rules.specs.{changed}
use Rattle.mm_parts.specs.{joined_parts}
use Rattle.mm_parts.proofs.{words_done, open_step}
use Rattle.mm_parts.proofs.parts.Parts.open_process.Goals as goal

pub invariant_of-self : goal.invariant_of-self
invariant_of-self c = record { kept = (words_done c.open_process.result (joined_parts c.args.self.now) c.args.self.now.kept (open_step (joined_parts c.args.self.now) c.args.self.now.kept (changed ◌==◌ (joined_parts c.args.self.now).words.is_open c.args.pid.0 true)) c.open_process.ensures.ok c.open_process.ensures.err c.open_process.ensures.ages).kept }

pub returns-clause-ok : goal.returns-clause-ok
returns-clause-ok c = (words_done c.open_process.result (joined_parts c.args.self.now) c.args.self.now.kept (open_step (joined_parts c.args.self.now) c.args.self.now.kept (changed ◌==◌ (joined_parts c.args.self.now).words.is_open c.args.pid.0 true)) c.open_process.ensures.ok c.open_process.ensures.err c.open_process.ensures.ages).ok

pub returns-clause-err : goal.returns-clause-err
returns-clause-err c = (words_done c.open_process.result (joined_parts c.args.self.now) c.args.self.now.kept (open_step (joined_parts c.args.self.now) c.args.self.now.kept (changed ◌==◌ (joined_parts c.args.self.now).words.is_open c.args.pid.0 true)) c.open_process.ensures.ok c.open_process.ensures.err c.open_process.ensures.ages).err
