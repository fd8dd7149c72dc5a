use Rattle.mm_move_classes.proofs.{agrees}
use Rattle.mm_move_classes.proofs.laws.classes_sum_to_counts.Goals as goal

pub returns : goal.returns
returns c = agrees
