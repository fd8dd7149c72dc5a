use Rattle.std.proofs.Common.{length}
use Rattle.mm_vad.proofs.trees.Tree.+remove.Given as goal

abbrev pub decreases-remove : goal.decreases-remove
decreases-remove l = length l.self.now.ranges
