use Rattle.std.proofs.Common.{◌≡◌, ℕ, List, ◌<◌, ◌≤◌, length, ap, sym, ◌∙◌, subst, ◌∷◌, ◌++◌, ◌+◌, refl, arith}
use Rattle.mm_types.specs.{Range}
use Rattle.mm_vad.specs.{Node, range_in, tree_at, IsNode, LieApart, add_range}
use Rattle.mm_vad.proofs.{apart_front, apart_back, both_shorter, add_left, add_right, length-add, at_root, may_lean_left, may_lean_right}
use Rattle.mm_vad.proofs.{settled_grown, node_unchanged, unchanged, alike_itself}
use Rattle.mm_vad.proofs.trees.Tree.+insert.Goals as goal
use Rattle.mm_vad.proofs.trees.Tree.+insert.Goals.{After-deref_mut, After-deref_mut-2}

left_root : {t : ℕ} (c : After-deref_mut t) → IsNode c.deref_mut.result.now c.args.self.now
left_root c = at_root c.self.inside.root c.in-Some.top c.deref_mut.result.now c.args.self.now c.self.invariant c.in-Some.is c.self.view_is c.deref_mut.ensures.value

left_are : {t : ℕ} (c : After-deref_mut t) (xs : List Range) → xs ≡ add_range (range_in c.args.node.value) c.deref_mut.result.now.left.ranges → add_range (range_in c.args.node.value) c.args.self.now.ranges ≡ xs ++ range_in c.deref_mut.result.now ∷ c.deref_mut.result.now.right.ranges
left_are c xs e =
    let n = c.deref_mut.result.now in
    let h : c.args.node.value.pages.first < n.pages.first = omega (arith, c.if-deref.true, ap (λ n. n.pages.first) c.deref.ensures, ap (λ n. n.pages.first) c.deref-2.ensures, ap (λ (x : Node). x.pages.first) c.deref_mut.ensures.value) in
    ap (add_range (range_in c.args.node.value)) (left_root c).fork.ranges ∙ add_left (range_in c.args.node.value) n.left.ranges (range_in n) n.right.ranges h ∙ ap (λ ys. ys ++ range_in n ∷ n.right.ranges) (sym e)

pub insert-requires : goal.insert-requires
insert-requires t c =
    let n = c.deref_mut.result.now in
    let is = left_root (goal.at.insert-requires t c).After-deref_mut in
    let all = both_shorter n.left.ranges (range_in n) n.right.ranges _ is.fork.ranges in
    let falls : length n.left.ranges < t = omega (arith, all, c.decreases) in
    let few : length n.left.ranges + 1 < 4294967296 = omega (arith, all, c.requires.few) in
    (falls, (apart_front 0 n.left.ranges (range_in n ∷ n.right.ranges) (subst (LieApart 0) is.fork.ranges c.requires.apart), (c.requires.within, few)))

pub settle-requires : goal.settle-requires
settle-requires t c =
    let n = c.deref_mut.result.now in
    let is = left_root (goal.at.settle-requires t c).After-deref_mut in
    let all = both_shorter n.left.ranges (range_in n) n.right.ranges _ is.fork.ranges in
    let new = ap length c.insert.ensures.is ∙ length-add (range_in c.args.node.value) n.left.ranges in
    may_lean_left n c.args.self.now c.insert.new.self n.right is c.deref_mut-then-insert.result.now c.deref_mut-then-insert.ensures.value refl
    (omega (arith, is.fork.near.0, c.insert.ensures.not_higher), omega (arith, is.fork.near.1, c.insert.ensures.not_lower)) (omega (arith, all, new, c.requires.few))

pub returns-then-insert : goal.returns-then-insert
returns-then-insert t c =
    let at = (goal.at.returns-then-insert t c).After-deref_mut in
    let n = c.deref_mut.result.now in
    settled_grown n c.args.self.now c.insert.new.self n.right (left_root at) c.deref_mut-then-insert.result.now c.deref_mut-then-insert.ensures.value
    (tree_at c.settle.new.node) c.settle.result c.settle.ensures.is.shaped c.settle.ensures.balanced c.settle.ensures.same
    (add_range (range_in c.args.node.value) c.args.self.now.ranges) (left_are at _ c.insert.ensures.is) c.insert.ensures.not_lower (omega arith) (omega (arith, c.insert.ensures.not_higher))

pub returns-then-deref : goal.returns-then-deref
returns-then-deref t c =
    let at = (goal.at.returns-then-deref t c).After-deref_mut in
    let n = c.deref_mut.result.now in
    let is = left_root at in
    unchanged n c.args.self.now c.insert.new.self n.right is (c.insert.ensures.same c.if-insert.false) (alike_itself n.right) c.insert.ensures.shaped is.above
    (add_range (range_in c.args.node.value) c.args.self.now.ranges) (left_are at _ c.insert.ensures.is) c.args.self.now.height (c.args.self.now.height + 1) (omega arith) (omega arith)

pub invariant_of-self-else-insert : goal.invariant_of-self-else-insert
invariant_of-self-else-insert t c =
    let n = c.deref_mut.result.now in
    let is = left_root (goal.at.invariant_of-self-else-insert t c).After-deref_mut in
    node_unchanged n c.args.self.now c.insert.new.self n.right is (c.insert.ensures.same c.if-insert.false) (alike_itself n.right) c.insert.ensures.shaped is.above

right_root : {t : ℕ} (c : After-deref_mut-2 t) → IsNode c.deref_mut-2.result.now c.args.self.now
right_root c = at_root c.self.inside.root c.in-Some.top c.deref_mut-2.result.now c.args.self.now c.self.invariant c.in-Some.is c.self.view_is c.deref_mut-2.ensures.value

right_order : {t : ℕ} (c : After-deref_mut-2 t) → LieApart 0 (c.deref_mut-2.result.now.left.ranges ++ range_in c.deref_mut-2.result.now ∷ c.deref_mut-2.result.now.right.ranges)
right_order c = subst (LieApart 0) (right_root c).fork.ranges c.requires.apart

right_are : {t : ℕ} (c : After-deref_mut-2 t) (xs : List Range) → xs ≡ add_range (range_in c.args.node.value) c.deref_mut-2.result.now.right.ranges → add_range (range_in c.args.node.value) c.args.self.now.ranges ≡ c.deref_mut-2.result.now.left.ranges ++ range_in c.deref_mut-2.result.now ∷ xs
right_are c xs e =
    let n = c.deref_mut-2.result.now in
    let h : n.pages.first ≤ c.args.node.value.pages.first = omega (arith, c.if-deref.false, ap (λ n. n.pages.first) c.deref.ensures, ap (λ n. n.pages.first) c.deref-2.ensures, ap (λ (x : Node). x.pages.first) c.deref_mut-2.ensures.value) in
    ap (add_range (range_in c.args.node.value)) (right_root c).fork.ranges ∙ add_right (range_in c.args.node.value) 0 n.left.ranges (range_in n) n.right.ranges (right_order c) h ∙ ap (λ ys. n.left.ranges ++ range_in n ∷ ys) (sym e)

pub insert-requires-2 : goal.insert-requires-2
insert-requires-2 t c =
    let n = c.deref_mut-2.result.now in
    let is = right_root (goal.at.insert-requires-2 t c).After-deref_mut-2 in
    let all = both_shorter n.left.ranges (range_in n) n.right.ranges _ is.fork.ranges in
    let falls : length n.right.ranges < t = omega (arith, all, c.decreases) in
    let few : length n.right.ranges + 1 < 4294967296 = omega (arith, all, c.requires.few) in
    (falls, (apart_back 0 n.left.ranges (range_in n) n.right.ranges (subst (LieApart 0) is.fork.ranges c.requires.apart), (c.requires.within, few)))

pub settle-requires-then-insert-2 : goal.settle-requires-then-insert-2
settle-requires-then-insert-2 t c =
    let n = c.deref_mut-2.result.now in
    let is = right_root (goal.at.settle-requires-then-insert-2 t c).After-deref_mut-2 in
    let all = both_shorter n.left.ranges (range_in n) n.right.ranges _ is.fork.ranges in
    let new = ap length c.insert-2.ensures.is ∙ length-add (range_in c.args.node.value) n.right.ranges in
    may_lean_right n c.args.self.now n.left c.insert-2.new.self is c.deref_mut-then-insert-2.result.now c.deref_mut-then-insert-2.ensures.value refl
    (omega (arith, is.fork.near.0, c.insert-2.ensures.not_lower), omega (arith, is.fork.near.1, c.insert-2.ensures.not_higher)) (omega (arith, all, new, c.requires.few))

pub returns-then-insert-2 : goal.returns-then-insert-2
returns-then-insert-2 t c =
    let at = (goal.at.returns-then-insert-2 t c).After-deref_mut-2 in
    let n = c.deref_mut-2.result.now in
    settled_grown n c.args.self.now n.left c.insert-2.new.self (right_root at) c.deref_mut-then-insert-2.result.now c.deref_mut-then-insert-2.ensures.value
    (tree_at c.settle-then-insert-2.new.node) c.settle-then-insert-2.result c.settle-then-insert-2.ensures.is.shaped c.settle-then-insert-2.ensures.balanced c.settle-then-insert-2.ensures.same
    (add_range (range_in c.args.node.value) c.args.self.now.ranges) (right_are at _ c.insert-2.ensures.is) (omega arith) c.insert-2.ensures.not_lower (omega (arith, c.insert-2.ensures.not_higher))

pub returns : goal.returns
returns t c =
    let at = (goal.at.returns t c).After-deref_mut-2 in
    let n = c.deref_mut-2.result.now in
    let is = right_root at in
    unchanged n c.args.self.now n.left c.insert-2.new.self is (alike_itself n.left) (c.insert-2.ensures.same c.if-insert-2.false) is.below c.insert-2.ensures.shaped
    (add_range (range_in c.args.node.value) c.args.self.now.ranges) (right_are at _ c.insert-2.ensures.is) c.args.self.now.height (c.args.self.now.height + 1) (omega arith) (omega arith)

pub invariant_of-self-else-insert-2 : goal.invariant_of-self-else-insert-2
invariant_of-self-else-insert-2 t c =
    let n = c.deref_mut-2.result.now in
    let is = right_root (goal.at.invariant_of-self-else-insert-2 t c).After-deref_mut-2 in
    node_unchanged n c.args.self.now n.left c.insert-2.new.self is (alike_itself n.left) (c.insert-2.ensures.same c.if-insert-2.false) is.below c.insert-2.ensures.shaped
