use Rattle.std.proofs.Common.{◌≡◌, ◌+◌, ◌-◌, ◌<◌, ◌≤◌, length, drop}
use Rattle.std.specs.List.{prefix_len}
use Rattle.mm_world.specs.{same_state}
use Rattle.mm_address_spaces.specs.{states_in, state_told}
use Rattle.mm_address_spaces.proofs.queries.run_in_view.Given as goal

abbrev pub invariant-loop-end : goal.invariant-loop-end
invariant-loop-end l =
    (l.index < l.end) × (l.end ≤ length l.rows)
    × (prefix_len (same_state (state_told l.first)) (drop (l.index + 1) (states_in l.pages l.view l.rows)) ≡ (l.end - (l.index + 1)) + prefix_len (same_state (state_told l.first)) (drop l.end (states_in l.pages l.view l.rows)))

abbrev pub decreases-loop-end : goal.decreases-loop-end
decreases-loop-end l = l.len - l.end
