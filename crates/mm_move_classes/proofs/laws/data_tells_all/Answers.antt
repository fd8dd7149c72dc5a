use Rattle.mm_move_classes.proofs.{data_back}
use Rattle.mm_move_classes.proofs.laws.data_tells_all.Goals as goal

pub returns : goal.returns
returns c = data_back
