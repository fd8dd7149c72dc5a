use Rattle.mm_replay.specs.Standing.{life}
use Rattle.mm_log_check.proofs.{stands_more, came_stop, came_halt}
use Rattle.mm_log_check.proofs.checks.Checker.next.Goals as goal

pub returns-in-Err-clause-went : goal.returns-in-Err-clause-went
returns-in-Err-clause-went g c = λ left s.
    let a = c.args in
    came_stop left (g.S.Source.left a.source.now) (g.S.Source.left c.take_next.new.source) a.reader.now (life a.self.now.life) a.self.now.tally _ s (c.in-Err.ensures.read left s.moves s.reading)

pub returns-in-Ok-take-clause-went : goal.returns-in-Ok-take-clause-went
returns-in-Ok-take-clause-went g c = λ left s.
    let a = c.args in
    stands_more left (g.S.Source.left a.source.now) (g.S.Source.left c.take_next.new.source) a.reader.now c.take_next.new.self (life a.self.now.life) a.self.now.tally c.take_next.new.m (life c.take.new.self.life) c.take.new.self.tally
    s (c.in-Ok.ensures.read left s.moves s.reading) c.in-Ok-take.ensures.ok

pub returns-in-Err-take-clause-went : goal.returns-in-Err-take-clause-went
returns-in-Err-take-clause-went g c = λ left s.
    let a = c.args in
    came_halt left (g.S.Source.left a.source.now) (g.S.Source.left c.take_next.new.source) a.reader.now c.take_next.new.self (life a.self.now.life) a.self.now.tally c.take_next.new.m (life c.take.new.self.life) c.take.new.self.tally.counts
    s (c.in-Ok.ensures.read left s.moves s.reading) c.in-Err-take.ensures.err
