use Rattle.std.proofs.Common.{length}
use Rattle.mm_vad.proofs.trees.+take_lowest.Given as goal

abbrev pub decreases-take_lowest : goal.decreases-take_lowest
decreases-take_lowest l = length l.left.ranges
