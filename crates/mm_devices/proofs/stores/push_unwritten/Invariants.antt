use Rattle.std.proofs.Common.{◌≡◌, ◌≤◌, ◌+◌, ◌++◌, replicate, None}
use Rattle.std.specs.Prelude.{vec_len, vec_capacity}
use Rattle.mm_devices.proofs.stores.push_unwritten.Given as goal

abbrev pub invariant-loop : goal.invariant-loop
invariant-loop l = record {
  items : l.blocks.items ≡ l.fn.blocks.items ++ replicate l.counter None;
  room : vec_len l.blocks + l.n ≤ vec_capacity l.blocks + l.counter;
}
