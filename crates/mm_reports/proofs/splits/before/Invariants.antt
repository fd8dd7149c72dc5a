use Rattle.std.proofs.Common.{◌≡◌, ◌++◌, take, drop}
use Rattle.mm_reports.specs.{before}
use Rattle.mm_reports.proofs.splits.before.Given as goal

abbrev pub invariant-loop-i : goal.invariant-loop-i
invariant-loop-i l = before l.byte l.word ≡ take l.i l.word ++ before l.byte (drop l.i l.word)
