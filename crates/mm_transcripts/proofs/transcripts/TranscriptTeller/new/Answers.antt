use Rattle.std.proofs.Common.{refl}
use Rattle.mm_move_classes.specs.{marks_of}
use Rattle.mm_transcripts.proofs.{row_first}
use Rattle.mm_transcripts.proofs.transcripts.TranscriptTeller.new.Goals as goal

pub returns : goal.returns
returns c = λ whole. row_first _ whole (marks_of c.new.result.marks) c.new.result.pending _ _ _ _ _
    c.new.ensures.marks c.new.ensures.none refl c.new-2.ensures refl
