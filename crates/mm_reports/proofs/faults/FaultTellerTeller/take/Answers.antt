use Rattle.std.proofs.Common.{◌++◌, ◌∙◌, Some, Option, ap, refl}
use Rattle.mm_types.specs.{Text}
use Rattle.mm_replay.specs.Standing.{life}
use Rattle.mm_move_classes.specs.{marks_of, Class}
use Rattle.mm_reports.specs.{tally_of, tally_after}
use Rattle.mm_reports.proofs.{fault_taken}
use Rattle.mm_reports.proofs.faults.FaultTellerTeller.take.Goals as goal

pub returns-clause-text : goal.returns-clause-text
returns-clause-text c =
    let t = c.args.self.now in
    λ whole ms. ap (λ (xs : Text). c.args._text.now.items ++ xs)
    (fault_taken t.style (tally_of t.counters) (tally_of c.count_move.new.self) (life c.args.life.now) (marks_of t.marks) (marks_of c.follow.new.self) t.before (Some c.args.m.now) c.args.m.now
    (c.in_ok-count_move.ensures ∙ ap (λ (k : Option Class). tally_after (tally_of t.counters) (life c.args.life.now) c.args.m.now k) c.class_so_far-class.ensures)
    c.in_ok-follow.ensures.ok refl whole ms)
