use Rattle.mm_move_classes.proofs.{says}
use Rattle.mm_move_classes.proofs.laws.classes_tell_the_state.Goals as goal

pub returns : goal.returns
returns c = says
