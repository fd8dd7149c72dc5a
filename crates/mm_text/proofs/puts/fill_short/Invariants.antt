use Rattle.std.proofs.Common.{◌≡◌, ◌≤◌, [], length, drop}
use Rattle.mm_text.specs.{digits_onto}
use Rattle.mm_text.proofs.puts.fill_short.Given as goal

abbrev pub invariant-loop-at : goal.invariant-loop-at
invariant-loop-at l = record {
  within : l.at ≤ length l.digits;
  digits : digits_onto 16 (length l.fn.digits) l.n [] ≡ digits_onto 16 l.at l.rest (drop l.at l.digits);
}

abbrev pub decreases-loop-at : goal.decreases-loop-at
decreases-loop-at l = l.at
