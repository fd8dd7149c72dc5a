-- What is told of a stock of boxes.
use Rattle.std.specs.Prelude.{ℕ}

pub record StockOf : Type 0 where
  pub boxes : ℕ  -- those that no page stands in
  pub room : ℕ  -- how many pages there is a box for, those that stand in one among them
