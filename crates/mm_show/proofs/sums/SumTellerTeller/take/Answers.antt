use Rattle.std.proofs.Common.{◌++◌, Option, ap, ◌∙◌}
use Rattle.mm_types.specs.{Text}
use Rattle.mm_replay.specs.Standing.{life}
use Rattle.mm_move_classes.specs.{marks_of}
use Rattle.mm_log_walk.specs.{class_list, Classed}
use Rattle.mm_show.specs.{of_class}
use Rattle.mm_show.proofs.{sum_taken}
use Rattle.mm_show.proofs.sums.SumTellerTeller.take.Goals as goal

pub returns-clause-text : goal.returns-clause-text
returns-clause-text c =
    let t = c.args.self.now in
    let u = c.next.new.self in
    λ whole ms. ap (λ (xs : Text). c.args._text.now.items ++ xs)
    (sum_taken t.classes c.count_classed.new.classes t.kinds c.count_kind.new.kinds (marks_of t.classifier.marks) (marks_of u.marks) t.classifier.pending u.pending (life c.args.life.now) c.args.m.now
    (λ cs k. c.count_classed.ensures.counts cs k ∙ ap (λ (o : Option Classed). of_class t.classes (class_list o ++ cs) k) c.in_ok-before.ensures.before)
    c.count_kind.ensures.counts c.in_ok-before.ensures.marks c.in_ok-before.ensures.pending whole ms)
