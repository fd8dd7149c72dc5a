use Rattle.std.proofs.Common.{◌++◌, Option, ap, ◌∙◌, sym}
use Rattle.mm_log_walk.specs.{class_list, Classed}
use Rattle.mm_show.specs.{of_class}
use Rattle.mm_show.proofs.sums.count_classed.Goals as goal

pub returns-in-Some-clause-counts : goal.returns-in-Some-clause-counts
returns-in-Some-clause-counts c = λ cs k. c.count_class.ensures.counts cs k ∙ ap (λ (o : Option Classed). of_class c.args.classes.now (class_list o ++ cs) k) (sym c.in-Some.is)
