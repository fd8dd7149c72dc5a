use Rattle.std.proofs.Common.{◌≡◌, ℕ, List, ◌≢◌, ◌<◌, length, ap, sym, ◌∙◌, subst, ◌∷◌, ◌++◌, ◌-◌, refl, arith}
use Rattle.std.proofs.lemmas.Bool.{eqb-true}
use Rattle.std.specs.Prelude.{IsTrue}
use Rattle.mm_types.specs.{Range}
use Rattle.mm_vad.specs.{Node, range_in, tree_at, IsNode, LieApart, is_begun_at, remove_range}
use Rattle.mm_vad.proofs.{apart_front, apart_back, both_shorter, remove_left, remove_right, length-remove-le, begun_left, begun_right, at_root}
use Rattle.mm_vad.proofs.{may_lean_left, may_lean_right, settled_shrunk, node_unchanged, unchanged, alike_itself, taken, apart}
use Rattle.mm_vad.proofs.trees.Tree.+remove.Goals as goal
use Rattle.mm_vad.proofs.trees.Tree.+remove.Goals.{After-deref_mut, After-deref_mut-2}

pub returns-then-begins_at : goal.returns-then-begins_at
returns-then-begins_at t c =
    taken c.self.inside.root c.take_top.new.root c.args.self.now c.args.first c.self.invariant c.self.view_is c.requires.apart c.requires.begun
    (λ n e. eqb-true n.value.pages.first c.args.first (sym (c.begins_at.ensures n e) ∙ c.if-begins_at.true)) c.take_top.ensures.tree c.take_top.ensures.ranges c.take_top.ensures.least c.take_top.ensures.most

left_root : {t : ℕ} (c : After-deref_mut t) → IsNode c.deref_mut.result.now c.args.self.now
left_root c = at_root c.self.inside.root c.in-Some.top c.deref_mut.result.now c.args.self.now c.self.invariant c.in-Some.is c.self.view_is c.deref_mut.ensures.value

left_order : {t : ℕ} (c : After-deref_mut t) → LieApart 0 (c.deref_mut.result.now.left.ranges ++ range_in c.deref_mut.result.now ∷ c.deref_mut.result.now.right.ranges)
left_order c = subst (LieApart 0) (left_root c).fork.ranges c.requires.apart

goes_left : {t : ℕ} (c : After-deref_mut t) → c.args.first < c.deref_mut.result.now.pages.first
goes_left c = omega (arith, c.if-first-deref.true, ap (λ n. n.pages.first) c.deref.ensures, ap (λ (x : Node). x.pages.first) c.deref_mut.ensures.value)

left_are : {t : ℕ} (c : After-deref_mut t) (xs : List Range) → xs ≡ remove_range c.args.first c.deref_mut.result.now.left.ranges → remove_range c.args.first c.args.self.now.ranges ≡ xs ++ range_in c.deref_mut.result.now ∷ c.deref_mut.result.now.right.ranges
left_are c xs e =
    let n = c.deref_mut.result.now in
    ap (remove_range c.args.first) (left_root c).fork.ranges ∙ remove_left c.args.first 0 n.left.ranges (range_in n) n.right.ranges (left_order c) (goes_left c) ∙ ap (λ ys. ys ++ range_in n ∷ n.right.ranges) (sym e)

pub remove-node-requires : goal.remove-node-requires
remove-node-requires t c =
    let at = (goal.at.remove-node-requires t c).After-deref_mut in
    let n = c.deref_mut.result.now in
    let all = both_shorter n.left.ranges (range_in n) n.right.ranges _ (left_root at).fork.ranges in
    let begun : IsTrue (is_begun_at c.args.first n.left.ranges) = sym (ap (is_begun_at c.args.first) (left_root at).fork.ranges ∙ begun_left c.args.first 0 n.left.ranges (range_in n) n.right.ranges (left_order at) (goes_left at)) ∙ c.requires.begun in
    let falls : length n.left.ranges < t = omega (arith, all, c.decreases) in
    let few : length n.left.ranges < 4294967296 = omega (arith, all, c.requires.few) in
    (falls, (apart_front 0 n.left.ranges (range_in n ∷ n.right.ranges) (left_order at), (begun, few)))

pub settle-requires : goal.settle-requires
settle-requires t c =
    let n = c.deref_mut.result.now in
    let is = left_root (goal.at.settle-requires t c).After-deref_mut in
    let all = both_shorter n.left.ranges (range_in n) n.right.ranges _ is.fork.ranges in
    let new = ap length c.remove-node.ensures.is in
    may_lean_left n c.args.self.now c.remove-node.new.self n.right is c.deref_mut-then-changed.result.now c.deref_mut-then-changed.ensures.value refl
    (omega (arith, is.fork.near.0, c.remove-node.ensures.not_higher), omega (arith, is.fork.near.1, c.remove-node.ensures.not_lower)) (omega (arith, all, new, length-remove-le c.args.first n.left.ranges, c.requires.few))

pub returns-then-changed : goal.returns-then-changed
returns-then-changed t c =
    let at = (goal.at.returns-then-changed t c).After-deref_mut in
    let n = c.deref_mut.result.now in
    settled_shrunk n c.args.self.now c.remove-node.new.self n.right (left_root at) c.deref_mut-then-changed.result.now c.deref_mut-then-changed.ensures.value
    (tree_at c.settle.new.node) c.settle.result c.settle.ensures.is.shaped c.settle.ensures.balanced c.settle.ensures.same
    (remove_range c.args.first c.args.self.now.ranges) (left_are at _ c.remove-node.ensures.is) c.remove-node.ensures.not_higher (omega arith) (omega (arith, c.remove-node.ensures.not_lower))

pub returns-then-first-deref : goal.returns-then-first-deref
returns-then-first-deref t c =
    let at = (goal.at.returns-then-first-deref t c).After-deref_mut in
    let n = c.deref_mut.result.now in
    let is = left_root at in
    unchanged n c.args.self.now c.remove-node.new.self n.right is (c.remove-node.ensures.same c.if-changed.false) (alike_itself n.right) c.remove-node.ensures.shaped is.above
    (remove_range c.args.first c.args.self.now.ranges) (left_are at _ c.remove-node.ensures.is) (c.args.self.now.height - 1) c.args.self.now.height (omega arith) (omega arith)

pub invariant_of-self-then-first-deref : goal.invariant_of-self-then-first-deref
invariant_of-self-then-first-deref t c =
    let n = c.deref_mut.result.now in
    let is = left_root (goal.at.invariant_of-self-then-first-deref t c).After-deref_mut in
    node_unchanged n c.args.self.now c.remove-node.new.self n.right is (c.remove-node.ensures.same c.if-changed.false) (alike_itself n.right) c.remove-node.ensures.shaped is.above

right_root : {t : ℕ} (c : After-deref_mut-2 t) → IsNode c.deref_mut-2.result.now c.args.self.now
right_root c = at_root c.self.inside.root c.in-Some.top c.deref_mut-2.result.now c.args.self.now c.self.invariant c.in-Some.is c.self.view_is c.deref_mut-2.ensures.value

right_order : {t : ℕ} (c : After-deref_mut-2 t) → LieApart 0 (c.deref_mut-2.result.now.left.ranges ++ range_in c.deref_mut-2.result.now ∷ c.deref_mut-2.result.now.right.ranges)
right_order c = subst (LieApart 0) (right_root c).fork.ranges c.requires.apart

goes_right : {t : ℕ} (c : After-deref_mut-2 t) → c.deref_mut-2.result.now.pages.first < c.args.first
goes_right c =
    let other : c.in-Some.top.value.pages.first ≢ c.args.first = apart c.in-Some.top.value.pages.first c.args.first (sym (c.begins_at.ensures c.in-Some.top c.in-Some.is) ∙ c.if-begins_at.false) in
    omega (arith, other, c.if-first-deref.false, ap (λ n. n.pages.first) c.deref.ensures, ap (λ (x : Node). x.pages.first) c.deref_mut-2.ensures.value)

right_are : {t : ℕ} (c : After-deref_mut-2 t) (xs : List Range) → xs ≡ remove_range c.args.first c.deref_mut-2.result.now.right.ranges → remove_range c.args.first c.args.self.now.ranges ≡ c.deref_mut-2.result.now.left.ranges ++ range_in c.deref_mut-2.result.now ∷ xs
right_are c xs e =
    let n = c.deref_mut-2.result.now in
    ap (remove_range c.args.first) (right_root c).fork.ranges ∙ remove_right c.args.first 0 n.left.ranges (range_in n) n.right.ranges (right_order c) (goes_right c) ∙ ap (λ ys. n.left.ranges ++ range_in n ∷ ys) (sym e)

pub remove-node-requires-2 : goal.remove-node-requires-2
remove-node-requires-2 t c =
    let at = (goal.at.remove-node-requires-2 t c).After-deref_mut-2 in
    let n = c.deref_mut-2.result.now in
    let all = both_shorter n.left.ranges (range_in n) n.right.ranges _ (right_root at).fork.ranges in
    let begun : IsTrue (is_begun_at c.args.first n.right.ranges) = sym (ap (is_begun_at c.args.first) (right_root at).fork.ranges ∙ begun_right c.args.first 0 n.left.ranges (range_in n) n.right.ranges (right_order at) (goes_right at)) ∙ c.requires.begun in
    let falls : length n.right.ranges < t = omega (arith, all, c.decreases) in
    let few : length n.right.ranges < 4294967296 = omega (arith, all, c.requires.few) in
    (falls, (apart_back 0 n.left.ranges (range_in n) n.right.ranges (right_order at), (begun, few)))

pub settle-requires-then-changed-2 : goal.settle-requires-then-changed-2
settle-requires-then-changed-2 t c =
    let n = c.deref_mut-2.result.now in
    let is = right_root (goal.at.settle-requires-then-changed-2 t c).After-deref_mut-2 in
    let all = both_shorter n.left.ranges (range_in n) n.right.ranges _ is.fork.ranges in
    let new = ap length c.remove-node-2.ensures.is in
    may_lean_right n c.args.self.now n.left c.remove-node-2.new.self is c.deref_mut-then-changed-2.result.now c.deref_mut-then-changed-2.ensures.value refl
    (omega (arith, is.fork.near.0, c.remove-node-2.ensures.not_lower), omega (arith, is.fork.near.1, c.remove-node-2.ensures.not_higher)) (omega (arith, all, new, length-remove-le c.args.first n.right.ranges, c.requires.few))

pub returns-then-changed-2 : goal.returns-then-changed-2
returns-then-changed-2 t c =
    let at = (goal.at.returns-then-changed-2 t c).After-deref_mut-2 in
    let n = c.deref_mut-2.result.now in
    settled_shrunk n c.args.self.now n.left c.remove-node-2.new.self (right_root at) c.deref_mut-then-changed-2.result.now c.deref_mut-then-changed-2.ensures.value
    (tree_at c.settle-then-changed-2.new.node) c.settle-then-changed-2.result c.settle-then-changed-2.ensures.is.shaped c.settle-then-changed-2.ensures.balanced c.settle-then-changed-2.ensures.same
    (remove_range c.args.first c.args.self.now.ranges) (right_are at _ c.remove-node-2.ensures.is) (omega arith) c.remove-node-2.ensures.not_higher (omega (arith, c.remove-node-2.ensures.not_lower))

pub returns : goal.returns
returns t c =
    let at = (goal.at.returns t c).After-deref_mut-2 in
    let n = c.deref_mut-2.result.now in
    let is = right_root at in
    unchanged n c.args.self.now n.left c.remove-node-2.new.self is (alike_itself n.left) (c.remove-node-2.ensures.same c.if-changed-2.false) is.below c.remove-node-2.ensures.shaped
    (remove_range c.args.first c.args.self.now.ranges) (right_are at _ c.remove-node-2.ensures.is) (c.args.self.now.height - 1) c.args.self.now.height (omega arith) (omega arith)

pub invariant_of-self-2 : goal.invariant_of-self-2
invariant_of-self-2 t c =
    let n = c.deref_mut-2.result.now in
    let is = right_root (goal.at.invariant_of-self-2 t c).After-deref_mut-2 in
    node_unchanged n c.args.self.now n.left c.remove-node-2.new.self is (alike_itself n.left) (c.remove-node-2.ensures.same c.if-changed-2.false) is.below c.remove-node-2.ensures.shaped
