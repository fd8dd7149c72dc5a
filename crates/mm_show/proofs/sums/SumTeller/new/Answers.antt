use Rattle.mm_move_classes.specs.{marks_of}
use Rattle.mm_show.proofs.{few_none, sum_none}
use Rattle.mm_show.proofs.sums.SumTeller.new.Goals as goal

pub invariant_of-result : goal.invariant_of-result
invariant_of-result c = record { few = few_none _ _ c.zeros-classes.ensures c.zeros-kinds.ensures }

pub returns-clause-sums : goal.returns-clause-sums
returns-clause-sums c = sum_none c.zeros-classes.result c.zeros-kinds.result (marks_of c.new-classifier.result.marks) c.new-classifier.result.pending c.zeros-classes.ensures c.zeros-kinds.ensures c.new-classifier.ensures.marks c.new-classifier.ensures.none
