use Rattle.mm_page_lists.proofs.{opened, apart, front_there}
use Rattle.std.proofs.Common.{sym}
use Rattle.mm_page_lists.proofs.lists.Lists.front.Goals as goal

pub returns-then-index-eq0-clause-apart : goal.returns-then-index-eq0-clause-apart
returns-then-index-eq0-clause-apart c = apart _ _ _ _ _ _ c.args.self.now (opened _ _ _ _ _ _ c.args.self.now c.self.view_is c.self.invariant)

pub returns-clause-first : goal.returns-clause-first
returns-clause-first c =
    let o = opened _ _ _ _ _ _ c.args.self.now c.self.view_is c.self.invariant in
    sym (front_there _ _ _ _ _ _ c.args.self.now o c.args.list c.requires c.index.result.now c.index.ensures c.index-2.result.now c.index-2.ensures c.if-index-eq0.false)

pub returns-clause-apart : goal.returns-clause-apart
returns-clause-apart c = apart _ _ _ _ _ _ c.args.self.now (opened _ _ _ _ _ _ c.args.self.now c.self.view_is c.self.invariant)
