use Rattle.mm_move_laws.proofs.{in_range, set_there, set_within, nowhere}
use Rattle.mm_move_laws.proofs.numbers.sets_are_of_processes.Goals as goal

pub returns : goal.returns
returns c = record {
  most = λ l reached. (in_range l reached).sets;
  has = λ l. set_there l.sets;
  low = λ l pid s e. (set_within l.sets pid s e).0;
  within = λ l pid s e. (set_within l.sets pid s e).1;
  nowhere = nowhere;
}
