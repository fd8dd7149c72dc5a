use Rattle.std.proofs.Common.{◌≡◌, ℕ, ◌+◌, ◌-◌, ◌<◌, ◌≤◌, get_or}
use Rattle.mm_vad.proofs.chunks.equal_in.Given as goal

abbrev pub invariant-loop-n : goal.invariant-loop-n
invariant-loop-n l = (0 < l.n) × (l.n ≤ l.most) × ((k : ℕ) → k < l.n → get_or l.rows (l.at + k) l.row ≡ l.row)

abbrev pub decreases-loop-n : goal.decreases-loop-n
decreases-loop-n l = l.most - l.n
