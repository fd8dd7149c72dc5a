use Rattle.std.proofs.Common.{true, refl}
use Rattle.mm_replay.specs.Standing.{life}
use Rattle.mm_reports.proofs.{counts_taken}
use Rattle.mm_reports.proofs.counts.CountsTellerTeller.take.Goals as goal

pub returns-clause-text : goal.returns-clause-text
returns-clause-text c =
    let t = c.args.self.now in
    counts_taken t.style t.script.now t.answers.now t.begun true t.charge c.charge_ended_by-self.result c.args.text.now.items c.put_head_left.new.text.items c.put_ended_by.new.text.items
    (life c.args.life.now) c.args.m.now c.in_ok-put_head_left.ensures refl c.charge_ended_by-self.ensures c.in_ok-put_ended_by.ensures
