use Rattle.std.proofs.Common.{◌+◌, ◌-◌, ◌<◌, ◌≤◌, ◌^◌}
use Rattle.mm_vad.specs.{range_at}
use Rattle.mm_address_spaces.proofs.{Changing}
use Rattle.mm_address_spaces.proofs.rows.change_rows.Given as goal

abbrev pub invariant-loop-done : goal.invariant-loop-done
invariant-loop-done l = (l.done ≤ l.count) × (l.first + l.done < 2 ^ 32) × Changing l.change (range_at l.first l.count) l.done l.fn.space l.space

abbrev pub decreases-loop-done : goal.decreases-loop-done
decreases-loop-done l = l.count - l.done
