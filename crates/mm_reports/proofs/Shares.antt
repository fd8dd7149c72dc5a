-- A part of a hundred is at most a hundred.
use Rattle.std.proofs.Common.{ℕ, ◌+◌, ◌*◌, ◌/◌, ◌≤◌, arith}
use Rattle.std.proofs.Math.Nat.{div-le_of_le-mul}

pub share_low : (hard soft : ℕ) → 100 * hard / (hard + soft) ≤ 100
share_low hard soft = div-le_of_le-mul (hard + soft) (omega arith)

pub ruleset shares = (share_low)
