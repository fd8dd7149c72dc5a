use Rattle.std.proofs.Common.{◌++◌, Option, ap, ◌∙◌}
use Rattle.mm_replay.specs.Standing.{life}
use Rattle.mm_move_classes.specs.{marks_of}
use Rattle.mm_log_walk.specs.{class_list, Classed}
use Rattle.mm_show.specs.{of_class}
use Rattle.mm_show.proofs.{sum_ended}
use Rattle.mm_show.proofs.sums.SumTeller.put_sums.Goals as goal

pub returns : goal.returns
returns c =
    let t = c.args.self.now in
    sum_ended t.classes t.kinds (marks_of t.classifier.marks) t.classifier.pending (life c.args._life.now) c.count_classed.new.classes c.args.text.now.items c.put_classes.new.text.items c.put_kinds.new.text.items
    (λ cs k. c.count_classed.ensures.counts cs k ∙ ap (λ (o : Option Classed). of_class t.classes (class_list o ++ cs) k) c.last.ensures)
    c.in_ok-put_classes.ensures c.in_ok-put_kinds.ensures
