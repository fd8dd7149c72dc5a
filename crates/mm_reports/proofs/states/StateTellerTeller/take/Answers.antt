use Rattle.mm_replay.specs.Standing.{life}
use Rattle.mm_reports.proofs.{state_taken}
use Rattle.mm_reports.proofs.states.StateTellerTeller.take.Goals as goal

pub returns-clause-text : goal.returns-clause-text
returns-clause-text c =
    state_taken c.args.self.now.line c.args.self.now.pages.keys c.follow.new.pages.keys c.args.text.now.items c.put_before.new.text.items
    (life c.args.life.now) c.args.m.now c.in_ok-put_before.ensures c.in_ok-follow.ensures
