use Rattle.std.proofs.Common.{Some}
use Rattle.mm_replay.specs.{alive_in, paging_in}
use Rattle.mm_replay.proofs.{known, stands_written, paging_written, paging_kept}
use Rattle.mm_replay.proofs.holdings.Keys.move_to.Goals as goal

pub rewrite-requires : goal.rewrite-requires
rewrite-requires c = known (alive_in c.args.self.now c.args.key) c.requires

pub returns-clause-stands : goal.returns-clause-stands
returns-clause-stands c =
    stands_written (alive_in c.args.self.now) (alive_in c.rewrite.new.self) c.args.key (Some (record { held = c.args.held; paging = c.is_paging-paging.result })) c.rewrite.ensures

pub returns-clause-paging : goal.returns-clause-paging
returns-clause-paging c =
    paging_kept (paging_in c.args.self.now) (paging_in c.rewrite.new.self) c.args.key c.is_paging-paging.result
    (paging_written (alive_in c.args.self.now) (alive_in c.rewrite.new.self) c.args.key (Some (record { held = c.args.held; paging = c.is_paging-paging.result })) c.rewrite.ensures)
    c.is_paging-paging.ensures
