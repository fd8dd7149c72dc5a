use Rattle.std.proofs.Common.{sym, arith, add-one}
use Rattle.mm_page_lists.proofs.{opened, apart, x_low, list_is, list_low, none_behind, one_behind}
use Rattle.mm_page_lists.proofs.lists.Lists.next.Goals as goal

pub index-requires : goal.index-requires
index-requires c =
    let o = opened _ _ _ _ _ _ c.args.self.now c.self.view_is c.self.invariant in
    let r = c.requires in
    let low = list_low _ _ _ _ _ _ c.args.self.now o c.args.x r.0 r.1 r.2 c.index-list.result.now c.index-list.ensures in
    omega (arith, low, o.stands.backs)

pub returns-then-index-x-clause-behind : goal.returns-then-index-x-clause-behind
returns-then-index-x-clause-behind c = λ j k on.
    let o = opened _ _ _ _ _ _ c.args.self.now c.self.view_is c.self.invariant in
    let list = list_is _ _ _ _ _ _ c.args.self.now o c.args.x j k on c.index-list.result.now c.index-list.ensures in
    let read = rw list at c.index.ensures in
    rw add-one (sym (none_behind _ _ _ _ _ _ c.args.self.now o c.args.x j k on c.index.result.now read c.if-index-x.true))

pub returns-then-index-x-clause-apart : goal.returns-then-index-x-clause-apart
returns-then-index-x-clause-apart c = apart _ _ _ _ _ _ c.args.self.now (opened _ _ _ _ _ _ c.args.self.now c.self.view_is c.self.invariant)

pub index-requires-2 : goal.index-requires-2
index-requires-2 c =
    let o = opened _ _ _ _ _ _ c.args.self.now c.self.view_is c.self.invariant in
    let r = c.requires in
    omega (arith, x_low _ _ _ _ _ _ c.args.self.now o c.args.x r.0 r.1 r.2)

pub returns-clause-behind : goal.returns-clause-behind
returns-clause-behind c = λ j k on.
    let o = opened _ _ _ _ _ _ c.args.self.now c.self.view_is c.self.invariant in
    let list = list_is _ _ _ _ _ _ c.args.self.now o c.args.x j k on c.index-list.result.now c.index-list.ensures in
    let read = rw list at c.index.ensures in
    rw add-one (sym (one_behind _ _ _ _ _ _ c.args.self.now o c.args.x j k on c.index.result.now c.index-2.result.now read c.if-index-x.false c.index-2.ensures))

pub returns-clause-apart : goal.returns-clause-apart
returns-clause-apart c = apart _ _ _ _ _ _ c.args.self.now (opened _ _ _ _ _ _ c.args.self.now c.self.view_is c.self.invariant)
