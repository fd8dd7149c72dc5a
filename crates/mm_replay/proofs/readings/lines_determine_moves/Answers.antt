use Rattle.mm_replay.proofs.{one_move}
use Rattle.mm_replay.proofs.readings.lines_determine_moves.Goals as goal

pub returns : goal.returns
returns c = one_move
