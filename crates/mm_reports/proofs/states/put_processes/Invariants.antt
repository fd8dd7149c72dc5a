use Rattle.std.proofs.Common.{◌≡◌, ◌++◌, ◌+◌, drop}
use Rattle.mm_reports.specs.{process_lines}
use Rattle.mm_reports.proofs.states.put_processes.Given as goal

abbrev pub invariant-loop-i : goal.invariant-loop-i
invariant-loop-i l = l.text.items ++ process_lines l.pages.keys (l.i + 1) (drop l.i l.sets) ≡ l.fn.text.items ++ process_lines l.pages.keys 1 l.sets
