use Rattle.mm_show.proofs.{answer_told, script_told}
use Rattle.mm_show.proofs.rows.rows_are_read_again.Goals as goal

pub returns-clause-script : goal.returns-clause-script
returns-clause-script c = script_told

pub returns-clause-answers : goal.returns-clause-answers
returns-clause-answers c = answer_told
