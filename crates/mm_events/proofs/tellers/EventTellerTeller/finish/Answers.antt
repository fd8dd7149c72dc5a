use Rattle.std.proofs.Common.{◌++◌, Option, ap, ◌∙◌}
use Rattle.mm_move_rules.specs.{FrameLife}
use Rattle.mm_replay.specs.Standing.{life}
use Rattle.mm_move_classes.specs.{marks_of}
use Rattle.mm_log_walk.specs.{Classed}
use Rattle.mm_transcripts.specs.{ages_shown}
use Rattle.mm_events.specs.{beside_of_events, waiting_event_row, EventTeller}
use Rattle.mm_events.proofs.{row_last}
use Rattle.mm_events.proofs.tellers.EventTellerTeller.finish.Goals as goal

pub returns : goal.returns
returns c =
    let t : EventTeller = c.args.self.now in
    let l : FrameLife = life c.args.life.now in
    row_last (beside_of_events t) t.begun (marks_of t.classifier.marks) t.classifier.pending t.waiting (ages_shown t.ages) l
    c.args.text.now.items c.put_head_left.new.text.items c.put_waiting.new.text.items c.in_ok-put_head_left.ensures
    (c.in_ok-put_waiting.ensures ∙ ap (λ (o : Option Classed). c.put_head_left.new.text.items ++ waiting_event_row t.waiting o l) c.last-last.ensures)
