use Rattle.std.proofs.Common.{◌≡◌, ◌≤◌, drop}
use Rattle.mm_observations.specs.{run_lines_from, run_lines}
use Rattle.mm_show.proofs.observed.run_of.Given as goal

-- the lines so far, and those that are left
abbrev pub invariant-loop-i : goal.invariant-loop-i
invariant-loop-i l = record {
  count : l.run.count ≤ l.i;
  followed : run_lines l.script l.answers ≡ run_lines_from l.run (drop l.i l.script) (drop l.i l.answers);
}
