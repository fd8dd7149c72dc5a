use Rattle.std.proofs.Common.{◌++◌, Option, Some, ap, ◌∙◌}
use Rattle.mm_move_rules.specs.{FrameLife}
use Rattle.mm_replay.specs.Standing.{life}
use Rattle.mm_move_classes.specs.{marks_of}
use Rattle.mm_transcripts.specs.{ages_shown, classed_row, first_behind, beside_of, TranscriptTeller}
use Rattle.mm_log_walk.specs.{Beside, Classed}
use Rattle.mm_transcripts.proofs.{row_taken}
use Rattle.mm_transcripts.proofs.transcripts.TranscriptTellerTeller.take.Goals as goal

pub returns-clause-text : goal.returns-clause-text
returns-clause-text c =
    let t : TranscriptTeller = c.args.self.now in
    let b : Beside = beside_of t in
    let l : FrameLife = life c.args.life.now in
    λ whole. row_taken b whole l (marks_of t.classifier.marks) t.classifier.pending t.first t.facts t.reason (ages_shown t.ages) t.left c.args.m.now
    (marks_of c.next.new.self.marks) c.next.new.self.pending c.keep_first_behind.new.first c.facts_of-self.result c.reason_then-self.result (ages_shown c.follow_ages.new.ages) c.writes_left-self.result
    c.args.text.now.items c.put_classed.new.text.items c.put_unwritten_before.new.text.items
    (c.in_ok-put_classed.ensures ∙ ap (λ (o : Option Classed). c.args.text.now.items ++ classed_row b t.first (Some c.args.m.now) o t.facts t.reason l) c.in_ok-before.ensures.before)
    c.in_ok-put_unwritten_before.ensures
    c.in_ok-before.ensures.marks c.in_ok-before.ensures.pending
    (c.keep_first_behind.ensures ∙ ap (λ (o : Option Classed). first_behind o (Some c.args.m.now) t.first) c.in_ok-before.ensures.before)
    c.facts_of-self.ensures c.reason_then-self.ensures c.in_ok-follow_ages.ensures c.writes_left-self.ensures
