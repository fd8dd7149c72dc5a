use Rattle.std.proofs.Common.{None, refl}
use Rattle.mm_move_classes.specs.{marks_of}
use Rattle.mm_reports.specs.{tally_of}
use Rattle.mm_reports.proofs.{fault_none}
use Rattle.mm_reports.proofs.faults.FaultTeller.new.Goals as goal

pub returns : goal.returns
returns c = fault_none c.args.style (tally_of c.new-2.result) (marks_of c.new.result) None c.new-2.ensures c.new.ensures refl
