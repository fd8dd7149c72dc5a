use Rattle.std.proofs.Common.{◌≡◌, ◌≤◌, ◌<◌, ◌++◌, ℕ, map, take, drop, false, Some}
use Rattle.std.specs.Prelude.{slice_get}
use Rattle.mm_requests.specs.{Waiting, ended, is_for}
use Rattle.mm_requests.proofs.flights.end_waits.Given as goal

abbrev pub invariant-loop-t : goal.invariant-loop-t
invariant-loop-t l = record {
  ended : l.waits.items ≡ map (ended l.f.0 l.ok) (take l.t l.fn.waits.items) ++ drop l.t l.fn.waits.items;
  within : l.from ≤ l.t;
  idle : (k : ℕ) (w : Waiting) → l.from ≤ k → k < l.t → slice_get l.waits.items k ≡ Some w → is_for w ≡ false;
}
