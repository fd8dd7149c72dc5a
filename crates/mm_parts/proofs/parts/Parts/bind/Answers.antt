use Rattle.mm_page_tables.specs.{pages}
use Rattle.mm_parts.specs.{joined_parts}
use Rattle.mm_parts.proofs.{words_done, bind_step, range_user}
use Rattle.mm_parts.proofs.parts.Parts.bind.Goals as goal

pub invariant_of-self : goal.invariant_of-self
invariant_of-self c = record { kept = (words_done c.bind.result (joined_parts c.args.self.now) c.args.self.now.kept (bind_step (joined_parts c.args.self.now) c.args.self.now.kept c.args.pid.0 (pages c.args.first.0 c.args.n) (range_user c.args.first.0 c.args.n c.requires.high)) c.bind.ensures.ok c.bind.ensures.err c.bind.ensures.ages).kept }

pub returns-clause-ok : goal.returns-clause-ok
returns-clause-ok c = (words_done c.bind.result (joined_parts c.args.self.now) c.args.self.now.kept (bind_step (joined_parts c.args.self.now) c.args.self.now.kept c.args.pid.0 (pages c.args.first.0 c.args.n) (range_user c.args.first.0 c.args.n c.requires.high)) c.bind.ensures.ok c.bind.ensures.err c.bind.ensures.ages).ok

pub returns-clause-err : goal.returns-clause-err
returns-clause-err c = (words_done c.bind.result (joined_parts c.args.self.now) c.args.self.now.kept (bind_step (joined_parts c.args.self.now) c.args.self.now.kept c.args.pid.0 (pages c.args.first.0 c.args.n) (range_user c.args.first.0 c.args.n c.requires.high)) c.bind.ensures.ok c.bind.ensures.err c.bind.ensures.ages).err
