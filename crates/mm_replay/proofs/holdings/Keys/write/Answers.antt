use Rattle.std.proofs.Common.{Some, arith}
use Rattle.mm_replay.proofs.{on_ok_then, on_err_then, private_written, shared_written, private_kept, shared_kept}
use Rattle.mm_replay.proofs.holdings.Keys.write.Goals as goal

pub returns-in-Private-clause-ok : goal.returns-in-Private-clause-ok
returns-in-Private-clause-ok c =
    let s = c.args.self.now in
    on_ok_then c.insert.result (private_written s.pages s.indices c.insert.new.self c.args.key c.in-Private.pid c.in-Private.vpn c.from.result (Some c.args.alive) c.in-Private.is (omega arith)) c.insert.ensures.ok

pub returns-in-Private-clause-err : goal.returns-in-Private-clause-err
returns-in-Private-clause-err c =
    let s = c.args.self.now in
    on_err_then c.insert.result (private_kept s.pages s.indices c.insert.new.self) c.insert.ensures.err

pub returns-in-Shared-clause-ok : goal.returns-in-Shared-clause-ok
returns-in-Shared-clause-ok c =
    let s = c.args.self.now in
    on_ok_then c.insert-in-Shared.result (shared_written s.pages s.indices c.insert-in-Shared.new.self c.args.key c.in-Shared.area c.in-Shared.index (Some c.args.alive) c.in-Shared.is) c.insert-in-Shared.ensures.ok

pub returns-in-Shared-clause-err : goal.returns-in-Shared-clause-err
returns-in-Shared-clause-err c =
    let s = c.args.self.now in
    on_err_then c.insert-in-Shared.result (shared_kept s.pages s.indices c.insert-in-Shared.new.self) c.insert-in-Shared.ensures.err
