use Rattle.std.proofs.Common.{◌-◌, ◌≤◌}
use Rattle.mm_bits.specs.{have_bit, NoneWithin}
use Rattle.mm_bits.proofs.bits.next_bit.Given as goal

abbrev pub invariant-loop-at : goal.invariant-loop-at
invariant-loop-at l = record {
  from : l.first ≤ l.at;
  none : NoneWithin (have_bit l.words.items) l.first l.at;
}

abbrev pub decreases-loop-at : goal.decreases-loop-at
decreases-loop-at l = l.end - l.at
