use Rattle.std.proofs.Common.{◌≡◌, ◌≤◌, ℕ, false, vec_len, vec_capacity}
use Rattle.mm_working_sets.specs.{is_in}
use Rattle.mm_working_sets.proofs.groups.AgeGroups.new.Given as goal

abbrev pub invariant-loop : goal.invariant-loop
invariant-loop l = record {
  count : vec_len l.sets ≡ l.counter;
  room : 9 ≤ vec_capacity l.sets;
  none : (g v : ℕ) → is_in l.sets.items g v ≡ false;
}
