use Rattle.mm_run.proofs.{one_log_of_runs}
use Rattle.mm_run.proofs.laws.lines_of_runs_have_one_log.Goals as goal

pub returns : goal.returns
returns c = one_log_of_runs
