use Rattle.std.proofs.Common.{◌≡◌, ◌≤◌, [], length, drop}
use Rattle.mm_types.specs.{hex_onto}
use Rattle.mm_text.proofs.puts.fill_hex.Given as goal

abbrev pub invariant-loop-at : goal.invariant-loop-at
invariant-loop-at l = record {
  within : l.at ≤ length l.digits;
  digits : hex_onto (length l.fn.digits) l.n [] ≡ hex_onto l.at l.rest (drop l.at l.digits);
}

abbrev pub decreases-loop-at : goal.decreases-loop-at
decreases-loop-at l = l.at
