use Rattle.std.proofs.Common.{◌≡◌, ◌+◌, ◌-◌, ◌<◌, ◌≤◌, length, drop}
use Rattle.std.specs.List.{prefix_len}
use Rattle.mm_vad.specs.{are_alike}
use Rattle.mm_vad.proofs.pages.Rows.run_from.Given as goal

abbrev pub invariant-loop-end : goal.invariant-loop-end
invariant-loop-end l = (l.i < l.end) × (l.end ≤ length l.self) × (prefix_len (are_alike l.first) (drop l.i l.self) ≡ (l.end - l.i) + prefix_len (are_alike l.first) (drop l.end l.self))

abbrev pub decreases-loop-end : goal.decreases-loop-end
decreases-loop-end l = l.len - l.end
