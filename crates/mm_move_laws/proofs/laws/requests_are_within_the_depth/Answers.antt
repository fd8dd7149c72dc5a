use Rattle.mm_move_laws.proofs.{line_flight, move_flight}
use Rattle.mm_move_laws.proofs.laws.requests_are_within_the_depth.Goals as goal

pub returns : goal.returns
returns c = record {
  at_lines = line_flight;
  one_more = move_flight;
  other_lines = λ l s. s.few;
}
