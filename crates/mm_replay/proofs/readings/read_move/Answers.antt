use Rattle.mm_replay.proofs.{move_reads, none_again, whole_again, front_again, whole_spelled}
use Rattle.mm_replay.proofs.readings.read_move.Goals as goal

pub returns-in_err-m-clause-again : goal.returns-in_err-m-clause-again
returns-in_err-m-clause-again c = λ a is e. absurd (none_again (move_reads c.args.line.now) c.in_err-m.ensures a is e)

pub returns-then-is_empty-clause-again : goal.returns-then-is_empty-clause-again
returns-then-is_empty-clause-again c = whole_again (move_reads c.args.line.now) c.in_ok-m.m c.in_ok-m.rest.now c.in_ok-m.ensures

pub returns-else-is_empty-clause-again : goal.returns-else-is_empty-clause-again
returns-else-is_empty-clause-again c = front_again (move_reads c.args.line.now) c.in_ok-m.m c.in_ok-m.rest.now c.is_empty.result c.in_ok-m.ensures c.is_empty.ensures c.if-is_empty.false

pub returns-then-is_empty-clause-spelled : goal.returns-then-is_empty-clause-spelled
returns-then-is_empty-clause-spelled c = whole_spelled (move_reads c.args.line.now) c.in_ok-m.m c.in_ok-m.rest.now c.is_empty.result c.in_ok-m.ensures c.is_empty.ensures c.if-is_empty.true
