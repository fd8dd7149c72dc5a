use Rattle.std.proofs.Common.{◌≡◌, vec_len}
use Rattle.mm_replay.specs.{in_leaves, Same}
use Rattle.mm_replay.proofs.grids.add_leaves.Given as goal

abbrev pub invariant-loop : goal.invariant-loop
invariant-loop g l = record {
  same : Same (in_leaves l.fn.leaves.items) (in_leaves l.leaves.items);
  counted : vec_len l.leaves ≡ l.counter;
}
