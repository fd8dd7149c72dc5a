use Rattle.std.proofs.Common.{◌≡◌}
use Rattle.mm_move_rules.specs.{numbers_from}
use Rattle.mm_replay.specs.{AreLists, free_alone}
use Rattle.mm_replay.proofs.listings.push_all.Given as goal

abbrev pub invariant-loop-f : goal.invariant-loop-f
invariant-loop-f l = record {
  pushed : l.lists ≡ record { numbers = l.n; lists = free_alone (numbers_from 0 l.f) };
  kept : AreLists 4 l.lists;
}
