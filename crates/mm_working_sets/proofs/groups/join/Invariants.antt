use Rattle.std.proofs.Common.{◌-◌, ◌^◌, ◌≤◌}
use Rattle.mm_working_sets.specs.{Joins}
use Rattle.mm_working_sets.proofs.groups.join.Given as goal

abbrev pub invariant-loop-page : goal.invariant-loop-page
invariant-loop-page l = record {
  joins : Joins l.fn.sets.items l.sets.items l.group l.from;
  low : l.from ≤ 2 ^ 19;
}

abbrev pub decreases-loop-page : goal.decreases-loop-page
decreases-loop-page l = 2 ^ 19 - l.from
