use Rattle.std.proofs.Common.{◌-◌, ◌≡◌, ◌+◌, ◌≤◌, length}
use Rattle.std.specs.Vec.{vec_capacity}
use Rattle.mm_unpaged.proofs.boxes.Stock.reserve.Given as goal

abbrev pub invariant-loop-self : goal.invariant-loop-self
invariant-loop-self l = record {
  more : length l.self-inside.boxes.items + l.fn.self.room ≡ l.fn.self.boxes + l.self-inside.room;
  later : l.fn.self.room ≤ l.self-inside.room;
  low : l.self-inside.room ≤ l.total;
  place : l.total ≤ vec_capacity l.self-inside.boxes;
}

abbrev pub decreases-loop-self : goal.decreases-loop-self
decreases-loop-self l = l.total - l.self-inside.room
