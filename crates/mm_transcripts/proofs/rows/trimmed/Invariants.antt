use Rattle.std.proofs.Common.{◌≡◌, ◌≤◌, length, take}
use Rattle.mm_transcripts.specs.{trimmed}
use Rattle.mm_transcripts.proofs.rows.trimmed.Given as goal

abbrev pub invariant-loop-end : goal.invariant-loop-end
invariant-loop-end l = record {
  within : l.end ≤ length l.line;
  same : trimmed (take l.end l.line) ≡ trimmed l.line;
}

abbrev pub decreases-loop-end : goal.decreases-loop-end
decreases-loop-end l = l.end
