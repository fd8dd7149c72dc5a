use Rattle.mm_unpaged.proofs.{count_by_remove}
use Rattle.mm_unpaged.proofs.places.Places.unbind.Goals as goal

pub returns-clause-count : goal.returns-clause-count
returns-clause-count c = count_by_remove c.args.self.now.map c.remove.new.self c.args.place c.remove.ensures.entries c.requires.dead
