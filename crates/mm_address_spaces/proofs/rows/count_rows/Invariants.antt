use Rattle.std.proofs.Common.{◌≡◌, ◌-◌, ◌≤◌, take, drop, count_by}
use Rattle.mm_address_spaces.specs.{passes}
use Rattle.mm_address_spaces.proofs.{shown_rows}
use Rattle.mm_address_spaces.proofs.rows.count_rows.Given as goal

abbrev pub invariant-loop-done : goal.invariant-loop-done
invariant-loop-done l = (l.done ≤ l.count) × (l.passing ≤ l.done) × (l.passing ≡ count_by (passes l.test l.region_kind) (take l.done (drop l.first (shown_rows l.region_kind l.rows))))

abbrev pub decreases-loop-done : goal.decreases-loop-done
decreases-loop-done l = l.count - l.done
