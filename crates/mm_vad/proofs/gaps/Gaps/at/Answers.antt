use Rattle.std.proofs.Common.{arith}
use Rattle.mm_types.specs.{first_user_page}
use Rattle.mm_vad.proofs.{apart_from_below}
use Rattle.mm_vad.proofs.gaps.Gaps.at.Goals as goal

pub at-requires : goal.at-requires
at-requires c = apart_from_below 0 first_user_page c.self.inside.tree.ranges (omega arith) c.self.invariant
