-- The frames that are marked with the line.
use Rattle.std.proofs.Common.{◌≡◌, ℕ, ◌<◌, false, get_or, arith}
use Rattle.mm_types.proofs.{differ}
use Rattle.mm_log_check.specs.{LineMarksOf, has_mark}

-- no frame has the mark of a line that begins
pub none_marked : (v : LineMarksOf) → ((f : ℕ) → get_or v.marks f 0 < v.line) → (f : ℕ) → has_mark v f ≡ false
none_marked v lower f = differ (get_or v.marks f 0) v.line (λ e. omega (arith, lower f, e))

pub ruleset marked = (none_marked)
