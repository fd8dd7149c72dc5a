use Rattle.std.proofs.Common.{◌++◌, Option, Some, ap, ◌∙◌}
use Rattle.mm_move_classes.specs.{marks_of}
use Rattle.mm_replay.specs.Standing.{life}
use Rattle.mm_log_walk.specs.{Classed}
use Rattle.mm_reports.specs.{waiting_row, Noted}
use Rattle.mm_reports.proofs.{history_taken}
use Rattle.mm_reports.proofs.histories.HistoryTellerTeller.take.Goals as goal

pub returns-clause-text : goal.returns-clause-text
returns-clause-text c =
    let t = c.args.self.now in
    let u = c.next.new.self in
    history_taken t.subject t.begun t.waiting (Some c.note.result) t.classifier.pending u.pending (marks_of t.classifier.marks) (marks_of u.marks)
    c.args.text.now.items c.put_head_left.new.text.items c.put_waiting.new.text.items (life c.args.life.now) c.args.m.now
    c.in_ok-put_head_left.ensures
    (c.in_ok-put_waiting.ensures ∙ ap (λ (o : Option Classed). c.put_head_left.new.text.items ++ waiting_row t.subject t.waiting o (life c.args.life.now)) c.in_ok-classed.ensures.before)
    (ap (λ (x : Noted). Some x) c.note.ensures) c.in_ok-classed.ensures.pending c.in_ok-classed.ensures.marks
