use Rattle.mm_reports.proofs.{sums_to_classes}
use Rattle.mm_reports.proofs.laws.faults_sum_to_classes.Goals as goal

pub returns : goal.returns
returns c = sums_to_classes
