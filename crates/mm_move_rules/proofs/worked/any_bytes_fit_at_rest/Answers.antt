use Rattle.mm_move_rules.proofs.{located_at_start}
use Rattle.mm_move_rules.proofs.worked.any_bytes_fit_at_rest.Goals as goal

pub returns : goal.returns
returns c = located_at_start
