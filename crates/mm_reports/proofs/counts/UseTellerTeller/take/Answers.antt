use Rattle.mm_replay.specs.Standing.{life}
use Rattle.mm_reports.specs.{use_text}
use Rattle.mm_reports.proofs.{said_taken}
use Rattle.mm_reports.proofs.counts.UseTellerTeller.take.Goals as goal

pub returns-clause-text : goal.returns-clause-text
returns-clause-text c =
    said_taken c.args.self.now.line use_text c.args.text.now.items c.put_said_by.new.text.items (life c.args.life.now) c.args.m.now
    c.in_ok-put_said_by.ensures
