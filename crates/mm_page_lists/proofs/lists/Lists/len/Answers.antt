use Rattle.mm_page_lists.proofs.{opened, apart}
use Rattle.mm_page_lists.proofs.lists.Lists.len.Goals as goal

pub returns-clause-apart : goal.returns-clause-apart
returns-clause-apart c = apart _ _ _ _ _ _ c.args.self.now (opened _ _ _ _ _ _ c.args.self.now c.self.view_is c.self.invariant)
