use Rattle.mm_replay.specs.{paging_in}
use Rattle.mm_replay.proofs.{paging_kept}
use Rattle.mm_replay.proofs.holdings.Keys.place.Goals as goal

pub returns-in-Ok-clause-paging : goal.returns-in-Ok-clause-paging
returns-in-Ok-clause-paging c =
    paging_kept (paging_in c.args.self.now) (paging_in c.add.new.self) c.args.key c.is_paging-paging.result c.in-Ok.ensures.paging c.is_paging-paging.ensures
