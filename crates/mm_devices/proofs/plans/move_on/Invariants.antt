use Rattle.std.proofs.Common.{◌≡◌, ◌++◌, map, take, drop}
use Rattle.mm_devices.specs.{one_further}
use Rattle.mm_devices.proofs.plans.move_on.Given as goal

abbrev pub invariant-loop-i : goal.invariant-loop-i
invariant-loop-i l =
    l.entries ≡ map (one_further l.direction) (take l.i l.fn.entries) ++ drop l.i l.fn.entries
