use Rattle.mm_observations.specs.{run_lines, none_before, file_rows}
use Rattle.mm_observations.proofs.{plain_packed}
use Rattle.mm_observations.proofs.laws.packed_rows_are_plain.Goals as goal

pub returns : goal.returns
returns c = λ script answers bytes text e. plain_packed (run_lines script answers) none_before 1 (file_rows bytes) text e
