use Rattle.mm_replay.proofs.{key_reads, none_again, whole_again, front_again, whole_spelled}
use Rattle.mm_replay.proofs.readings.read_key.Goals as goal

pub returns-in_err-key-clause-again : goal.returns-in_err-key-clause-again
returns-in_err-key-clause-again c = λ a is e. absurd (none_again (key_reads c.args.word.now) c.in_err-key.ensures a is e)

pub returns-then-is_empty-clause-again : goal.returns-then-is_empty-clause-again
returns-then-is_empty-clause-again c = whole_again (key_reads c.args.word.now) c.in_ok-key.key c.in_ok-key.rest.now c.in_ok-key.ensures

pub returns-else-is_empty-clause-again : goal.returns-else-is_empty-clause-again
returns-else-is_empty-clause-again c = front_again (key_reads c.args.word.now) c.in_ok-key.key c.in_ok-key.rest.now c.is_empty.result c.in_ok-key.ensures c.is_empty.ensures c.if-is_empty.false

pub returns-then-is_empty-clause-spelled : goal.returns-then-is_empty-clause-spelled
returns-then-is_empty-clause-spelled c = whole_spelled (key_reads c.args.word.now) c.in_ok-key.key c.in_ok-key.rest.now c.is_empty.result c.in_ok-key.ensures c.is_empty.ensures c.if-is_empty.true
