use Rattle.std.proofs.Common.{arith}
use Rattle.mm_page_lists.proofs.{opened, apart, closed, shows, back_low, room, first_pushed, pushed}
use Rattle.mm_page_lists.proofs.lists.Lists.push_back.Goals as goal

pub overflow_add-len : goal.overflow_add-len
overflow_add-len c =
    let o = opened _ _ _ _ _ _ c.args.self.now c.self.view_is c.self.invariant in
    let r = c.requires in
    omega (arith, o.stands.small, room _ _ _ _ _ _ c.args.self.now o c.args.list r.list_there c.index-len.result.now c.index-len.ensures c.args.x r.below r.on_none)

pub invariant_of-self : goal.invariant_of-self
invariant_of-self c =
    let o = opened _ _ _ _ _ _ c.args.self.now c.self.view_is c.self.invariant in
    let r = c.requires in
    let p = first_pushed _ _ _ _ _ _ c.args.self.now o c.args.list r.list_there c.index-len.result.now c.index-len.ensures c.args.x r.below r.on_none c.if-len-eq0.true in
    closed _ _ _ _ _ _ _ p.stands

pub returns-then-len-eq0-clause-pushed : goal.returns-then-len-eq0-clause-pushed
returns-then-len-eq0-clause-pushed c =
    let o = opened _ _ _ _ _ _ c.args.self.now c.self.view_is c.self.invariant in
    let r = c.requires in
    let p = first_pushed _ _ _ _ _ _ c.args.self.now o c.args.list r.list_there c.index-len.result.now c.index-len.ensures c.args.x r.below r.on_none c.if-len-eq0.true in
    shows _ _ _ _ _ _ _ p

pub returns-then-len-eq0-clause-apart : goal.returns-then-len-eq0-clause-apart
returns-then-len-eq0-clause-apart c =
    let o = opened _ _ _ _ _ _ c.args.self.now c.self.view_is c.self.invariant in
    let r = c.requires in
    let p = first_pushed _ _ _ _ _ _ c.args.self.now o c.args.list r.list_there c.index-len.result.now c.index-len.ensures c.args.x r.below r.on_none c.if-len-eq0.true in
    rw (shows _ _ _ _ _ _ _ p) (apart _ _ _ _ _ _ _ p)

pub index_mut-requires-else-len-eq0 : goal.index_mut-requires-else-len-eq0
index_mut-requires-else-len-eq0 c =
    let o = opened _ _ _ _ _ _ c.args.self.now c.self.view_is c.self.invariant in
    let low = back_low _ _ _ _ _ _ c.args.self.now o c.args.list c.requires.list_there c.index-len.result.now c.index-len.ensures c.index-last.result.now c.index-last.ensures c.if-len-eq0.false in
    omega (arith, low)

pub invariant_of-self-else-len-eq0 : goal.invariant_of-self-else-len-eq0
invariant_of-self-else-len-eq0 c =
    let o = opened _ _ _ _ _ _ c.args.self.now c.self.view_is c.self.invariant in
    let r = c.requires in
    let p = pushed _ _ _ _ _ _ c.args.self.now o c.args.list r.list_there c.index-len.result.now c.index-len.ensures c.args.x r.below r.on_none c.index-last.result.now c.index-last.ensures c.if-len-eq0.false in
    closed _ _ _ _ _ _ _ p.stands

pub returns-else-len-eq0-clause-pushed : goal.returns-else-len-eq0-clause-pushed
returns-else-len-eq0-clause-pushed c =
    let o = opened _ _ _ _ _ _ c.args.self.now c.self.view_is c.self.invariant in
    let r = c.requires in
    let p = pushed _ _ _ _ _ _ c.args.self.now o c.args.list r.list_there c.index-len.result.now c.index-len.ensures c.args.x r.below r.on_none c.index-last.result.now c.index-last.ensures c.if-len-eq0.false in
    shows _ _ _ _ _ _ _ p

pub returns-else-len-eq0-clause-apart : goal.returns-else-len-eq0-clause-apart
returns-else-len-eq0-clause-apart c =
    let o = opened _ _ _ _ _ _ c.args.self.now c.self.view_is c.self.invariant in
    let r = c.requires in
    let p = pushed _ _ _ _ _ _ c.args.self.now o c.args.list r.list_there c.index-len.result.now c.index-len.ensures c.args.x r.below r.on_none c.index-last.result.now c.index-last.ensures c.if-len-eq0.false in
    rw (shows _ _ _ _ _ _ _ p) (apart _ _ _ _ _ _ _ p)
