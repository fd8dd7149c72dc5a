use Rattle.mm_move_laws.proofs.{reached_start, reached_next, reached_along}
use Rattle.mm_move_laws.proofs.numbers.logs_go_on.Goals as goal

pub returns : goal.returns
returns c = record {
  start = reached_start;
  one = reached_next;
  along = reached_along;
}
