use Rattle.mm_unpaged.proofs.{count_in_order}
use Rattle.mm_unpaged.proofs.places.Places.reserve.Goals as goal

pub returns-clause-count : goal.returns-clause-count
returns-clause-count c = count_in_order c.args.self.now.map c.reserve.new.self c.reserve.ensures.entries.0
