use Rattle.std.proofs.Common.{sym, arith}
use Rattle.mm_page_lists.proofs.{opened, apart, closed, shows, front_there, front_low, popped}
use Rattle.mm_page_lists.proofs.lists.Lists.pop_front.Goals as goal

pub returns-then-len-eq0-clause-apart : goal.returns-then-len-eq0-clause-apart
returns-then-len-eq0-clause-apart c = apart _ _ _ _ _ _ c.args.self.now (opened _ _ _ _ _ _ c.args.self.now c.self.view_is c.self.invariant)

pub index-requires : goal.index-requires
index-requires c =
    let o = opened _ _ _ _ _ _ c.args.self.now c.self.view_is c.self.invariant in
    let low = front_low _ _ _ _ _ _ c.args.self.now o c.args.list c.requires c.index-len.result.now c.index-len.ensures c.index-x.result.now c.index-x.ensures c.if-len-eq0.false in
    omega (arith, low)

pub invariant_of-self : goal.invariant_of-self
invariant_of-self c =
    let o = opened _ _ _ _ _ _ c.args.self.now c.self.view_is c.self.invariant in
    let p = popped _ _ _ _ _ _ c.args.self.now o c.args.list c.requires c.index-len.result.now c.index-len.ensures c.index-x.result.now c.index.result.now c.index-x.ensures c.index.ensures c.if-len-eq0.false in
    closed _ _ _ _ _ _ _ p.stands

pub returns-clause-first : goal.returns-clause-first
returns-clause-first c =
    let o = opened _ _ _ _ _ _ c.args.self.now c.self.view_is c.self.invariant in
    sym (front_there _ _ _ _ _ _ c.args.self.now o c.args.list c.requires c.index-len.result.now c.index-len.ensures c.index-x.result.now c.index-x.ensures c.if-len-eq0.false)

pub returns-clause-popped : goal.returns-clause-popped
returns-clause-popped c =
    let o = opened _ _ _ _ _ _ c.args.self.now c.self.view_is c.self.invariant in
    let p = popped _ _ _ _ _ _ c.args.self.now o c.args.list c.requires c.index-len.result.now c.index-len.ensures c.index-x.result.now c.index.result.now c.index-x.ensures c.index.ensures c.if-len-eq0.false in
    shows _ _ _ _ _ _ _ p

pub returns-clause-apart : goal.returns-clause-apart
returns-clause-apart c =
    let o = opened _ _ _ _ _ _ c.args.self.now c.self.view_is c.self.invariant in
    let p = popped _ _ _ _ _ _ c.args.self.now o c.args.list c.requires c.index-len.result.now c.index-len.ensures c.index-x.result.now c.index.result.now c.index-x.ensures c.index.ensures c.if-len-eq0.false in
    rw (shows _ _ _ _ _ _ _ p) (apart _ _ _ _ _ _ _ p)
