use Rattle.std.proofs.Common.{◌≡◌, ◌≤◌, ◌+◌, ◌++◌, length}
use Rattle.mm_move_classes.specs.{digits_of, number_text}
use Rattle.mm_move_classes.proofs.encoding.put_number.Given as goal

abbrev pub invariant-loop-places : goal.invariant-loop-places
invariant-loop-places l = record {
  within : l.places ≤ 13;
  room : length l.out + l.places ≤ length l.fn.out + 13;
  digits : l.out ++ digits_of l.places l.rest ≡ l.fn.out ++ number_text l.n;
}

abbrev pub decreases-loop-places : goal.decreases-loop-places
decreases-loop-places l = l.places
