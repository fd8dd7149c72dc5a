use Rattle.std.proofs.Common.{◌≡◌, ◌≤◌, ◌++◌, length}
use Rattle.mm_types.specs.{decimal}
use Rattle.mm_log_check.proofs.fronts.number.Given as goal

abbrev pub invariant-loop-rest : goal.invariant-loop-rest
invariant-loop-rest l = record {
  front : decimal l.sum ++ l.rest ≡ l.fn.text;
  some : 1 ≤ l.sum;
}

abbrev pub decreases-loop-rest : goal.decreases-loop-rest
decreases-loop-rest l = length l.rest
