use Rattle.std.proofs.Common.{◌≡◌, length, find}
use Rattle.mm_types.specs.{holds_page}
use Rattle.mm_vad.specs.{LieApart}
use Rattle.mm_vad.proofs.trees.Tree.at.Given as goal

abbrev pub invariant-loop-node : goal.invariant-loop-node
invariant-loop-node l = record {
  apart : LieApart 0 l.tree.ranges;
  same : find (λ r. holds_page r l.v) l.tree.ranges ≡ find (λ r. holds_page r l.v) l.self.ranges;
}

abbrev pub decreases-loop-node : goal.decreases-loop-node
decreases-loop-node l = length l.tree.ranges
