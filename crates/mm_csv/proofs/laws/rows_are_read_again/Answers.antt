use Rattle.mm_csv.proofs.{read_again}
use Rattle.mm_csv.proofs.laws.rows_are_read_again.Goals as goal

pub returns : goal.returns
returns c = read_again
