use Rattle.std.proofs.Common.{◌++◌, Option, Some, ap, ◌∙◌}
use Rattle.mm_move_rules.specs.{FrameLife}
use Rattle.mm_replay.specs.Standing.{life}
use Rattle.mm_move_classes.specs.{marks_of}
use Rattle.mm_log_walk.specs.{Classed, Beside}
use Rattle.mm_transcripts.specs.{ages_shown, Reason}
use Rattle.mm_events.specs.{beside_of_events, noted_as, waiting_event_row, EventTeller, Noted}
use Rattle.mm_events.proofs.{row_taken}
use Rattle.mm_events.proofs.tellers.EventTellerTeller.take.Goals as goal

pub returns-clause-text : goal.returns-clause-text
returns-clause-text c =
    let t : EventTeller = c.args.self.now in
    let b : Beside = beside_of_events t in
    let l : FrameLife = life c.args.life.now in
    λ whole. row_taken b t.begun l (marks_of t.classifier.marks) t.classifier.pending t.waiting (ages_shown t.ages) c.args.m.now
    (marks_of c.next.new.self.marks) c.next.new.self.pending (Some c.note.result) (ages_shown c.follow_ages.new.ages)
    c.args.text.now.items c.put_head_left.new.text.items c.put_waiting.new.text.items c.in_ok-put_head_left.ensures
    (c.in_ok-put_waiting.ensures ∙ ap (λ (o : Option Classed). c.put_head_left.new.text.items ++ waiting_event_row t.waiting o l) c.in_ok-before.ensures.before)
    c.in_ok-before.ensures.marks c.in_ok-before.ensures.pending
    (ap (λ (n : Noted). Some n) (c.note.ensures ∙ ap (λ (r : Option Reason). noted_as l c.args.m.now r) c.reason_then-reason.ensures))
    c.in_ok-follow_ages.ensures
