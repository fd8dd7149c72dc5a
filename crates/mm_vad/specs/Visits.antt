-- How many steps a ledger was told of.
use Rattle.std.specs.Prelude.{◌≡◌, ℕ, zero, suc, ◌+◌, ◌^◌, ◌≤◌}

abbrev pub repeated : {A : Type 0} → (A → A) → ℕ → A → A
repeated f zero x = x
repeated f (suc k) x = repeated f k (f x)

-- between the two states of a ledger so many nodes were visited, and they are few beside `n` ranges
pub record VisitsFew {A : Type 0} (stepped : A → A) (before after : A) (n : ℕ) : Type 0 where
  pub visited : ℕ
  pub counted : after ≡ repeated stepped visited before
  pub few : 2 ^ visited ≤ (n + 2) ^ 3
