use Rattle.mm_calls.proofs.{makes_none}
use Rattle.mm_calls.proofs.sections.add_paging_section.Goals as goal

pub returns-then-not-can_charge-clause-makes : goal.returns-then-not-can_charge-clause-makes
returns-then-not-can_charge-clause-makes g c = makes_none g.G.PageStore _ c.args.g.now
