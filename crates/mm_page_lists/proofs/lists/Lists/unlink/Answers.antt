use Rattle.std.proofs.Common.{◌≡◌, ◌<◌, ℕ, length, Some, subst, sym, arith}
use Rattle.mm_page_lists.specs.{number_at}
use Rattle.mm_page_lists.proofs.{Opened, opened, apart, closed, shows, list_is, list_low, some_left, first_unlinked, last_unlinked, before_low, behind_low}
use Rattle.mm_page_lists.proofs.{bridged}
use Rattle.mm_page_lists.proofs.lists.Lists.unlink.Goals as goal
use Rattle.mm_page_lists.proofs.lists.Lists.unlink.Goals.{After-index-list}

open_of : (c : After-index-list) → Opened c.self.inside.next.items c.self.inside.prev.items c.self.inside.owner.items c.self.inside.firsts.items c.self.inside.lasts.items c.self.inside.lens.items c.args.self.now
open_of c = opened _ _ _ _ _ _ c.args.self.now c.self.view_is c.self.invariant

low : (c : After-index-list) → c.index-list.result.now < length c.args.self.now.lists
low c = list_low _ _ _ _ _ _ c.args.self.now (open_of c) c.args.x c.requires.0 c.requires.1 c.requires.2 c.index-list.result.now c.index-list.ensures

on : (c : After-index-list) → number_at c.args.self.now.lists c.index-list.result.now c.requires.1 ≡ Some c.args.x
on c =
    let list = list_is _ _ _ _ _ _ c.args.self.now (open_of c) c.args.x c.requires.0 c.requires.1 c.requires.2 c.index-list.result.now c.index-list.ensures in
    subst (λ (h : ℕ). number_at c.args.self.now.lists h c.requires.1 ≡ Some c.args.x) (sym list) c.requires.2

inside : (c : After-index-list) → c.args.x < length c.self.inside.next.items
inside c =
    let o = open_of c in
    omega (arith, o.numbers, (apart _ _ _ _ _ _ c.args.self.now o).below c.requires.0 c.requires.1 c.args.x c.requires.2)

pub index-list-requires : goal.index-list-requires
index-list-requires c =
    let o = opened _ _ _ _ _ _ c.args.self.now c.self.view_is c.self.invariant in
    omega (arith, o.numbers, o.stands.owners, (apart _ _ _ _ _ _ c.args.self.now o).below c.requires.0 c.requires.1 c.args.x c.requires.2)

pub index-len-requires : goal.index-len-requires
index-len-requires c =
    let at = (goal.at.index-len-requires c).After-index-list in
    omega (arith, (open_of at).stands.counts, low at)

pub index_mut-requires : goal.index_mut-requires
index_mut-requires c =
    let at = (goal.at.index_mut-requires c).After-index-list in
    omega (arith, (open_of at).stands.counts, low at)

pub overflow_sub-len : goal.overflow_sub-len
overflow_sub-len c =
    let at = (goal.at.overflow_sub-len c).After-index-list in
    let list = list_is _ _ _ _ _ _ c.args.self.now (open_of at) c.args.x c.requires.0 c.requires.1 c.requires.2 c.index-list.result.now c.index-list.ensures in
    let some = some_left _ _ _ _ _ _ c.args.self.now (open_of at) c.args.x c.requires.0 c.requires.1 c.requires.2 c.index-len.result.now (rw list at c.index-len.ensures) in
    omega (arith, some)

pub index-requires : goal.index-requires
index-requires c =
    let at = (goal.at.index-requires c).After-index-list in
    omega (arith, (open_of at).stands.fronts, low at)

pub index-requires-then-index-x : goal.index-requires-then-index-x
index-requires-then-index-x c =
    let at = (goal.at.index-requires-then-index-x c).After-index-list in
    omega (arith, inside at)

pub index_mut-requires-then-index-x : goal.index_mut-requires-then-index-x
index_mut-requires-then-index-x c =
    let at = (goal.at.index_mut-requires-then-index-x c).After-index-list in
    omega (arith, (open_of at).stands.fronts, low at)

pub invariant_of-self : goal.invariant_of-self
invariant_of-self c =
    let at = (goal.at.invariant_of-self c).After-index-list in
    let p = first_unlinked _ _ _ _ _ _ c.args.self.now (open_of at) c.args.x c.index-list.result.now c.requires.1 (on at) c.index-len.result.now c.index.result.now c.index-then-index-x.result.now c.index-len.ensures c.index.ensures c.if-index-x.true c.index-then-index-x.ensures in
    closed _ _ _ _ _ _ _ p.stands

pub returns-then-index-x-clause-closed : goal.returns-then-index-x-clause-closed
returns-then-index-x-clause-closed c =
    let at = (goal.at.returns-then-index-x-clause-closed c).After-index-list in
    let p = first_unlinked _ _ _ _ _ _ c.args.self.now (open_of at) c.args.x c.index-list.result.now c.requires.1 (on at) c.index-len.result.now c.index.result.now c.index-then-index-x.result.now c.index-len.ensures c.index.ensures c.if-index-x.true c.index-then-index-x.ensures in
    shows _ _ _ _ _ _ _ p

pub returns-then-index-x-clause-apart : goal.returns-then-index-x-clause-apart
returns-then-index-x-clause-apart c =
    let at = (goal.at.returns-then-index-x-clause-apart c).After-index-list in
    let p = first_unlinked _ _ _ _ _ _ c.args.self.now (open_of at) c.args.x c.index-list.result.now c.requires.1 (on at) c.index-len.result.now c.index.result.now c.index-then-index-x.result.now c.index-len.ensures c.index.ensures c.if-index-x.true c.index-then-index-x.ensures in
    rw (shows _ _ _ _ _ _ _ p) (apart _ _ _ _ _ _ _ p)

pub index-requires-else-index-x : goal.index-requires-else-index-x
index-requires-else-index-x c =
    let at = (goal.at.index-requires-else-index-x c).After-index-list in
    omega (arith, (open_of at).stands.backs, low at)

pub index-requires-then-index-x-2 : goal.index-requires-then-index-x-2
index-requires-then-index-x-2 c =
    let at = (goal.at.index-requires-then-index-x-2 c).After-index-list in
    omega (arith, inside at, (open_of at).stands.prevs)

pub index_mut-requires-then-index-x-2 : goal.index_mut-requires-then-index-x-2
index_mut-requires-then-index-x-2 c =
    let at = (goal.at.index_mut-requires-then-index-x-2 c).After-index-list in
    omega (arith, (open_of at).stands.backs, low at)

pub invariant_of-self-then-index-x-2 : goal.invariant_of-self-then-index-x-2
invariant_of-self-then-index-x-2 c =
    let at = (goal.at.invariant_of-self-then-index-x-2 c).After-index-list in
    let p = last_unlinked _ _ _ _ _ _ c.args.self.now (open_of at) c.args.x c.index-list.result.now c.requires.1 (on at) c.index-len.result.now c.index-else-index-x.result.now c.index-then-index-x-2.result.now c.index-len.ensures c.index-else-index-x.ensures c.if-index-x-2.true c.index-then-index-x-2.ensures in
    closed _ _ _ _ _ _ _ p.stands

pub returns-then-index-x-2-clause-closed : goal.returns-then-index-x-2-clause-closed
returns-then-index-x-2-clause-closed c =
    let at = (goal.at.returns-then-index-x-2-clause-closed c).After-index-list in
    let p = last_unlinked _ _ _ _ _ _ c.args.self.now (open_of at) c.args.x c.index-list.result.now c.requires.1 (on at) c.index-len.result.now c.index-else-index-x.result.now c.index-then-index-x-2.result.now c.index-len.ensures c.index-else-index-x.ensures c.if-index-x-2.true c.index-then-index-x-2.ensures in
    shows _ _ _ _ _ _ _ p

pub returns-then-index-x-2-clause-apart : goal.returns-then-index-x-2-clause-apart
returns-then-index-x-2-clause-apart c =
    let at = (goal.at.returns-then-index-x-2-clause-apart c).After-index-list in
    let p = last_unlinked _ _ _ _ _ _ c.args.self.now (open_of at) c.args.x c.index-list.result.now c.requires.1 (on at) c.index-len.result.now c.index-else-index-x.result.now c.index-then-index-x-2.result.now c.index-len.ensures c.index-else-index-x.ensures c.if-index-x-2.true c.index-then-index-x-2.ensures in
    rw (shows _ _ _ _ _ _ _ p) (apart _ _ _ _ _ _ _ p)

pub index-behind-requires : goal.index-behind-requires
index-behind-requires c =
    let at = (goal.at.index-behind-requires c).After-index-list in
    omega (arith, inside at)

pub index-before-requires : goal.index-before-requires
index-before-requires c =
    let at = (goal.at.index-before-requires c).After-index-list in
    omega (arith, inside at, (open_of at).stands.prevs)

pub index_mut-requires-else-index-x-2 : goal.index_mut-requires-else-index-x-2
index_mut-requires-else-index-x-2 c =
    let at = (goal.at.index_mut-requires-else-index-x-2 c).After-index-list in
    let low = before_low _ _ _ _ _ _ c.args.self.now (open_of at) c.args.x c.index-list.result.now c.requires.1 (on at) c.index.result.now c.index-else-index-x.result.now c.index.ensures c.index-else-index-x.ensures c.if-index-x.false c.if-index-x-2.false c.index-behind.result.now c.index-before.result.now c.index-behind.ensures c.index-before.ensures in
    omega (arith, low)

pub index_mut-requires-else-index-x-2-2 : goal.index_mut-requires-else-index-x-2-2
index_mut-requires-else-index-x-2-2 c =
    let at = (goal.at.index_mut-requires-else-index-x-2-2 c).After-index-list in
    let low = behind_low _ _ _ _ _ _ c.args.self.now (open_of at) c.args.x c.index-list.result.now c.requires.1 (on at) c.index.result.now c.index-else-index-x.result.now c.index.ensures c.index-else-index-x.ensures c.if-index-x.false c.if-index-x-2.false c.index-behind.result.now c.index-before.result.now c.index-behind.ensures c.index-before.ensures in
    omega (arith, low)

pub invariant_of-self-else-index-x-2 : goal.invariant_of-self-else-index-x-2
invariant_of-self-else-index-x-2 c =
    let at = (goal.at.invariant_of-self-else-index-x-2 c).After-index-list in
    let p = bridged _ _ _ _ _ _ c.args.self.now (open_of at) c.args.x c.index-list.result.now c.requires.1 (on at) c.index.result.now c.index-else-index-x.result.now c.index.ensures c.index-else-index-x.ensures c.if-index-x.false c.if-index-x-2.false c.index-behind.result.now c.index-before.result.now c.index-behind.ensures c.index-before.ensures c.index-len.result.now c.index-len.ensures in
    closed _ _ _ _ _ _ _ p.stands

pub returns-else-index-x-2-clause-closed : goal.returns-else-index-x-2-clause-closed
returns-else-index-x-2-clause-closed c =
    let at = (goal.at.returns-else-index-x-2-clause-closed c).After-index-list in
    let p = bridged _ _ _ _ _ _ c.args.self.now (open_of at) c.args.x c.index-list.result.now c.requires.1 (on at) c.index.result.now c.index-else-index-x.result.now c.index.ensures c.index-else-index-x.ensures c.if-index-x.false c.if-index-x-2.false c.index-behind.result.now c.index-before.result.now c.index-behind.ensures c.index-before.ensures c.index-len.result.now c.index-len.ensures in
    shows _ _ _ _ _ _ _ p

pub returns-else-index-x-2-clause-apart : goal.returns-else-index-x-2-clause-apart
returns-else-index-x-2-clause-apart c =
    let at = (goal.at.returns-else-index-x-2-clause-apart c).After-index-list in
    let p = bridged _ _ _ _ _ _ c.args.self.now (open_of at) c.args.x c.index-list.result.now c.requires.1 (on at) c.index.result.now c.index-else-index-x.result.now c.index.ensures c.index-else-index-x.ensures c.if-index-x.false c.if-index-x-2.false c.index-behind.result.now c.index-before.result.now c.index-behind.ensures c.index-before.ensures c.index-len.result.now c.index-len.ensures in
    rw (shows _ _ _ _ _ _ _ p) (apart _ _ _ _ _ _ _ p)
