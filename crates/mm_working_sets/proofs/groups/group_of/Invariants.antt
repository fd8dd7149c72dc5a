use Rattle.std.proofs.Common.{◌≡◌, ◌-◌, ◌<◌, ◌≤◌, ℕ, false}
use Rattle.mm_working_sets.specs.{is_in}
use Rattle.mm_working_sets.proofs.groups.group_of.Given as goal

abbrev pub invariant-loop-group : goal.invariant-loop-group
invariant-loop-group l = record {
  none : (g : ℕ) → g < l.group → is_in l.sets.items g l.page ≡ false;
  low : l.group ≤ 7;
}

abbrev pub decreases-loop-group : goal.decreases-loop-group
decreases-loop-group l = 8 - l.group
