use Rattle.mm_replay.proofs.{stands_none, paging_none}
use Rattle.mm_replay.proofs.holdings.Keys.new.Goals as goal

pub returns-clause-stands : goal.returns-clause-stands
returns-clause-stands c = stands_none c.new.result c.new-2.result c.new.ensures c.new-2.ensures

pub returns-clause-paging : goal.returns-clause-paging
returns-clause-paging c = paging_none c.new.result c.new-2.result c.new.ensures c.new-2.ensures
