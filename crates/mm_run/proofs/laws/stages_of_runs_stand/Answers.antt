use Rattle.mm_run.proofs.{stages_stand}
use Rattle.mm_run.proofs.laws.stages_of_runs_stand.Goals as goal

pub returns : goal.returns
returns c = stages_stand
