use Rattle.mm_move_classes.proofs.{plain_data}
use Rattle.mm_move_classes.proofs.laws.data_is_plain.Goals as goal

pub returns : goal.returns
returns c = plain_data
