use Rattle.std.proofs.Common.{◌≡◌, ◌<◌, ℕ, map, get_or, false}
use Rattle.std.specs.Prelude.{◌==◌}
use Rattle.mm_requests.specs.{frame_number}
use Rattle.mm_requests.proofs.flights.Flight.place_of.Given as goal

abbrev pub invariant-loop-i : goal.invariant-loop-i
invariant-loop-i l = (k : ℕ) → k < l.i → (get_or (map frame_number l.frame-items) k 0 == l.f.0) ≡ false
