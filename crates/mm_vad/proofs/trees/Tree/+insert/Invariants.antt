use Rattle.std.proofs.Common.{length}
use Rattle.mm_vad.proofs.trees.Tree.+insert.Given as goal

abbrev pub decreases-insert : goal.decreases-insert
decreases-insert l = length l.self.now.ranges
