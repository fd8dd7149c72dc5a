use Rattle.std.proofs.Common.{arith}
use Rattle.mm_types.specs.{first_user_page}
use Rattle.mm_vad.proofs.{apart_from_below}
use Rattle.mm_vad.proofs.gaps.Gaps.first_from.Goals as goal

pub first_from-requires : goal.first_from-requires
first_from-requires c = apart_from_below 0 first_user_page c.self.inside.tree.ranges (omega arith) c.self.invariant
