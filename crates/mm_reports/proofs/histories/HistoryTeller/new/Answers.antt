use Rattle.mm_move_classes.specs.{marks_of}
use Rattle.mm_reports.proofs.{history_none}
use Rattle.mm_reports.proofs.histories.HistoryTeller.new.Goals as goal

pub returns : goal.returns
returns c = history_none c.args.subject c.new.result.pending (marks_of c.new.result.marks) c.new.ensures.marks c.new.ensures.none
