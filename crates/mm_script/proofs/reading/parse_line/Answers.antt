use Rattle.std.proofs.Common.{Ok, ap}
use Rattle.mm_script.proofs.reading.parse_line.Goals as goal

pub returns-clause-only : goal.returns-clause-only
returns-clause-only c = λ e h. ap (λ x. Ok x) (c.in_ok-parse_into.ensures.only e h).1
