use Rattle.std.proofs.Common.{None}
use Rattle.mm_replay.specs.{alive_in}
use Rattle.mm_replay.proofs.{stands_written, paging_written}
use Rattle.mm_replay.proofs.holdings.Keys.remove.Goals as goal

pub returns-clause-stands : goal.returns-clause-stands
returns-clause-stands c = stands_written (alive_in c.args.self.now) (alive_in c.forget.new.self) c.args.key None c.forget.ensures

pub returns-clause-paging : goal.returns-clause-paging
returns-clause-paging c = paging_written (alive_in c.args.self.now) (alive_in c.forget.new.self) c.args.key None c.forget.ensures
