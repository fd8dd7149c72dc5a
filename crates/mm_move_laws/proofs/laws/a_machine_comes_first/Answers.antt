use Rattle.mm_move_laws.proofs.{only_machine}
use Rattle.mm_move_laws.proofs.laws.a_machine_comes_first.Goals as goal

pub returns : goal.returns
returns c = only_machine
