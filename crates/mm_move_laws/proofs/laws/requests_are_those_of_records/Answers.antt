use Rattle.mm_move_laws.proofs.{requests_counted}
use Rattle.mm_move_laws.proofs.laws.requests_are_those_of_records.Goals as goal

pub returns : goal.returns
returns c = record {
  once = λ l s f. (s.standing f).flight;
  counted = requests_counted;
}
