use Rattle.std.proofs.Common.{arith}
use Rattle.mm_log_writer.proofs.Counted.{counted}
use Rattle.mm_log_writer.proofs.at_lines.renumber.Goals as goal

pub returns-then-last-lt57 : goal.returns-then-last-lt57
returns-then-last-lt57 c = counted c.args.room.now c.args.start c.args.number c.args.n c.requires (omega arith) (omega arith) (omega arith)
