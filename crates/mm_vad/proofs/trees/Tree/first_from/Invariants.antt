use Rattle.std.proofs.Common.{◌≡◌, length, find, option_map}
use Rattle.std.specs.Prelude.{nat_le}
use Rattle.std.specs.Option.{option_or}
use Rattle.mm_vad.specs.{LieApart, first_and_count}
use Rattle.mm_vad.proofs.trees.Tree.first_from.Given as goal

abbrev pub invariant-loop-node : goal.invariant-loop-node
invariant-loop-node l = record {
  apart : LieApart 0 l.tree.ranges;
  same : option_or (option_map first_and_count (find (λ r. nat_le l.v r.first) l.tree.ranges)) l.above ≡ option_map first_and_count (find (λ r. nat_le l.v r.first) l.self.ranges);
}

abbrev pub decreases-loop-node : goal.decreases-loop-node
decreases-loop-node l = length l.tree.ranges
