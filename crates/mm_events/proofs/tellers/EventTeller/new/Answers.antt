use Rattle.mm_move_classes.specs.{marks_of}
use Rattle.mm_transcripts.specs.{ages_shown}
use Rattle.mm_events.proofs.{row_first}
use Rattle.mm_events.proofs.tellers.EventTeller.new.Goals as goal

pub returns : goal.returns
returns c = λ whole. row_first _ (marks_of c.new.result.marks) c.new.result.pending (ages_shown c.new-2.result) c.new.ensures.marks c.new.ensures.none c.new-2.ensures
