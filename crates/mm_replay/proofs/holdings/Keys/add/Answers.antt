use Rattle.std.proofs.Common.{Some}
use Rattle.mm_types.proofs.{on_err}
use Rattle.mm_replay.specs.{alive_in}
use Rattle.mm_replay.proofs.{stands_written, paging_written, stands_same, paging_same}
use Rattle.mm_replay.proofs.holdings.Keys.add.Goals as goal

pub returns-clause-stands : goal.returns-clause-stands
returns-clause-stands c =
    stands_written (alive_in c.args.self.now) (alive_in c.write.new.self) c.args.key (Some (record { held = c.args.held; paging = c.args.paging })) c.in_ok-write.ensures.ok

pub returns-clause-paging : goal.returns-clause-paging
returns-clause-paging c =
    paging_written (alive_in c.args.self.now) (alive_in c.write.new.self) c.args.key (Some (record { held = c.args.held; paging = c.args.paging })) c.in_ok-write.ensures.ok

pub returns-in_err-write-clause-stands_err : goal.returns-in_err-write-clause-stands_err
returns-in_err-write-clause-stands_err c = on_err c.from_residual.result (stands_same (alive_in c.args.self.now) (alive_in c.write.new.self) c.in_err-write.ensures.err)

pub returns-in_err-write-clause-paging_err : goal.returns-in_err-write-clause-paging_err
returns-in_err-write-clause-paging_err c = on_err c.from_residual.result (paging_same (alive_in c.args.self.now) (alive_in c.write.new.self) c.in_err-write.ensures.err)
