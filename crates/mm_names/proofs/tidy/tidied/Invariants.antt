use Rattle.std.proofs.Common.{◌≡◌, length}
use Rattle.mm_names.specs.{untouched, with_bytes}
use Rattle.mm_names.proofs.tidy.tidied.Given as goal

abbrev pub invariant-loop-left : goal.invariant-loop-left
invariant-loop-left l = with_bytes untouched l.line ≡ with_bytes l.tidy l.left

abbrev pub decreases-loop-left : goal.decreases-loop-left
decreases-loop-left l = length l.left
