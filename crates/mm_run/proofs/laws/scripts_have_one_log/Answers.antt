use Rattle.std.proofs.Common.{ap}
use Rattle.mm_move_rules.specs.{counts_of_log}
use Rattle.mm_run.proofs.{one_log_of_scripts}
use Rattle.mm_run.proofs.laws.scripts_have_one_log.Goals as goal

pub returns : goal.returns
returns c = record {
  moves = one_log_of_scripts;
  counts = λ o q lines others u v g. ap counts_of_log (one_log_of_scripts o q lines others u v g);
}
