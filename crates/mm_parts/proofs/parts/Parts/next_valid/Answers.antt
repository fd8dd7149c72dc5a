use Rattle.mm_parts.specs.{joined_parts}
use Rattle.mm_parts.proofs.{next_shown}
use Rattle.mm_parts.proofs.parts.Parts.next_valid.Goals as goal

pub returns : goal.returns
returns c = next_shown (joined_parts c.args.self.now) c.working_sets_hold.ensures.aged c.args.pid c.args.from.0 c.next_from.result c.next_from.ensures
