use Rattle.std.proofs.Common.{◌≤◌, ◌<◌, ◌-◌, ◌+◌, ◌^◌, length}
use Rattle.mm_text.proofs.{Passed}
use Rattle.mm_text.proofs.spans.run.Given as goal

abbrev pub invariant-loop-to : goal.invariant-loop-to
invariant-loop-to l = record {
  order : l.start ≤ l.to;
  within : l.to ≤ length l.line;
  few : l.to ≤ l.start + l.most;
  low : l.sum < 16 ^ (l.to - l.start);
  passed : Passed l.base l.line l.start l.to l.sum;
}

abbrev pub decreases-loop-to : goal.decreases-loop-to
decreases-loop-to l = length l.line - l.to
