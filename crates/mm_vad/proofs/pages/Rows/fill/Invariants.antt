use Rattle.std.proofs.Common.{◌≡◌, ◌+◌, ◌-◌, ◌^◌, ◌<◌, ◌≤◌}
use Rattle.mm_vad.specs.{filled_rows}
use Rattle.mm_vad.proofs.pages.Rows.fill.Given as goal

abbrev pub invariant-loop-done : goal.invariant-loop-done
invariant-loop-done l = (l.done ≤ l.n) × (l.first + l.done < 2 ^ 32) × (l.self ≡ filled_rows l.fn.self l.first l.done l.row)

abbrev pub decreases-loop-done : goal.decreases-loop-done
decreases-loop-done l = l.n - l.done
