use Rattle.std.proofs.Common.{◌≤◌}
use Rattle.mm_working_sets.specs.{age_in, NoAgeWithin}
use Rattle.mm_working_sets.proofs.groups.oldest_below.Given as goal

abbrev pub invariant-loop-age : goal.invariant-loop-age
invariant-loop-age l = record {
  within : l.age ≤ l.limit;
  none : NoAgeWithin (age_in l.newest l.sets.items) l.age l.limit;
}

abbrev pub decreases-loop-age : goal.decreases-loop-age
decreases-loop-age l = l.age
