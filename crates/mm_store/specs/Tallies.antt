-- How many calls of a device there were, as a report counts them.
use Rattle.std.specs.Prelude.{ℕ, ◌+◌, ◌-◌, ◌^◌, min, Bool, true, false, if◌then◌else◌, List, [], ◌∷◌}
use Rattle.mm_types.specs.{Direction}
use Rattle.mm_devices.specs.{Call, same_direction}
use Rattle.mm_world.specs.{Tally}

-- a count that stands still at its type's end
abbrev pub one_more : ℕ → ℕ
one_more n = min (n + 1) (2 ^ 64 - 1)

abbrev pub with_outcome : Bool → Tally → Tally
with_outcome true t = record t { succeeded = one_more t.succeeded }
with_outcome false t = record t { failed = one_more t.failed }

abbrev pub with_call : Direction → Call → Tally → Tally
with_call way c t = if same_direction way c.way then with_outcome c.succeeded t else t

-- a tally of the calls of one direction, with these more
abbrev pub tallied : Direction → List Call → Tally → Tally
tallied way [] t = t
tallied way (c ∷ cs) t = tallied way cs (with_call way c t)
