use Rattle.std.proofs.Common.{Some, arith}
use Rattle.mm_types.proofs.{on_err}
use Rattle.mm_replay.specs.{found_pair}
use Rattle.mm_replay.proofs.{frames_written, frames_same}
use Rattle.mm_replay.proofs.holdings.Places.add.Goals as goal

pub returns-clause-ok : goal.returns-clause-ok
returns-clause-ok c = frames_written (found_pair c.args.self.now.frames) (found_pair c.insert.new.self) c.args.place c.from.result (Some c.args.frame) (omega arith) c.in_ok-insert.ensures.ok

pub returns-in_err-insert-clause-err : goal.returns-in_err-insert-clause-err
returns-in_err-insert-clause-err c = on_err c.from_residual.result (frames_same (found_pair c.args.self.now.frames) (found_pair c.insert.new.self) c.in_err-insert.ensures.err)
