use Rattle.mm_move_laws.proofs.{in_range, in_line}
use Rattle.mm_move_laws.proofs.numbers.machines_are_in_range.Goals as goal

pub returns : goal.returns
returns c = record {
  machine = λ l reached. (in_range l reached).machine;
  begun = λ l reached. (in_range l reached).begun;
  started = λ l reached. in_line reached.moves l reached.replays;
}
