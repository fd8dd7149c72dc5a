use Rattle.std.proofs.Common.{◌++◌, ℕ, Option, None, ap, ◌∙◌}
use Rattle.mm_move_rules.specs.{FrameLife}
use Rattle.mm_replay.specs.Standing.{life}
use Rattle.mm_move_classes.specs.{marks_of}
use Rattle.mm_transcripts.specs.{ages_shown, classed_row, ending_text, beside_of, TranscriptTeller}
use Rattle.mm_log_walk.specs.{Beside, Classed}
use Rattle.mm_transcripts.proofs.{row_last}
use Rattle.mm_transcripts.proofs.transcripts.TranscriptTellerTeller.finish.Goals as goal

pub returns : goal.returns
returns c =
    let t : TranscriptTeller = c.args.self.now in
    let b : Beside = beside_of t in
    let l : FrameLife = life c.args.life.now in
    row_last b c.args.whole (marks_of t.classifier.marks) t.classifier.pending t.first t.facts t.reason (ages_shown t.ages) t.left l c.args.text.now.items c.put_classed.new.text.items c.put_unwritten_end.new.text.items _
    (c.in_ok-put_classed.ensures ∙ ap (λ (o : Option Classed). c.args.text.now.items ++ classed_row b t.first None o t.facts t.reason l) c.last.ensures)
    c.in_ok-put_unwritten_end.ensures
    (c.in_ok-put_ending.ensures ∙ ap (λ (n : ℕ). c.put_unwritten_end.new.text.items ++ ending_text b c.args.whole n) c.line.ensures)
