use Rattle.std.proofs.Common.{◌≡◌, ℕ, ◌+◌, max, sym, ◌∙◌, subst, arith}
use Rattle.mm_vad.specs.{DifferByAtMost, IsNode, Node, range_in, tree_at}
use Rattle.mm_vad.proofs.{node_fork, same_kept, lowest_fork, left_fork, highest_fork, right_fork}
use Rattle.mm_vad.proofs.trees.settle.Goals as goal
use Rattle.mm_vad.proofs.trees.settle.Goals.{then-at_left, else-at_left}

-- a node with this gap and height
abbrev with_numbers : Node → ℕ → ℕ → Node
with_numbers n gap height = record n { span = record n.span { gap = gap; height = height } }

pub returns-clause-is : goal.returns-clause-is
returns-clause-is c =
    let n = c.args.node.now in
    let l = n.left in
    let u = n.right in
    let m = range_in n in
    let below = c.span-below.ensures in
    let above = c.span-above.ensures in
    let height = c.max.result + 1 in
    let near : DifferByAtMost 1 l.height u.height = (
      omega (arith, c.if-abs_diff-gt1.false, c.abs_diff.ensures, below.is.height_is, above.is.height_is),
      omega (arith, c.if-abs_diff-gt1.false, c.abs_diff.ensures, below.is.height_is, above.is.height_is),
    ) in
    let high : height ≡ max l.height u.height + 1 = omega (arith, c.max.ensures, below.is.height_is, above.is.height_is) in
    let P : Node → Type 0 = λ x. (gap : ℕ) → gap ≡ max x.left_gap x.right_gap → IsNode (with_numbers x gap height) (tree_at (with_numbers x gap height)) in
    let joined : P c.if-at_left.node = elim c.if-at_left.branch [
      | then-at_left w ↦ subst P (sym w.node-is) (λ gap is.
          node_fork l u n.pages w.room_up_to-node.result n.right_gap _ below.shaped above.shaped near c.requires.lean.within
          (left_fork l m c.span-below.result _ below.is w.room_up_to-node.ensures) (c.requires.right_gap w.if-at_left.true)
          (w.lowest_from-node.ensures ∙ lowest_fork l u m c.span-below.result below.is below.shaped) (c.requires.highest w.if-at_left.true) is high)
      | else-at_left w ↦ subst P (sym w.node-is) (λ gap is.
          node_fork l u n.pages n.left_gap w.room_from-node.result _ below.shaped above.shaped near c.requires.lean.within
          (c.requires.left_gap w.if-at_left.false) (right_fork u m c.span-above.result _ above.is c.requires.lean.within w.room_from-node.ensures)
          (c.requires.lowest w.if-at_left.false) (w.highest_from-node.ensures ∙ highest_fork l u m c.span-above.result above.is above.shaped) is high)
    ] in
    joined c.max-node.result c.max-node.ensures

pub returns-clause-same : goal.returns-clause-same
returns-clause-same c = λ no. same_kept _ _ (returns-clause-is c) (c.differ.ensures no)
