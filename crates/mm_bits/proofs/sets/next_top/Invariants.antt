use Rattle.std.proofs.Common.{◌+◌, ◌-◌, ◌*◌, ◌/◌, ◌≤◌, length}
use Rattle.mm_bits.specs.{have_bit, NoneWithin}
use Rattle.mm_bits.proofs.sets.next_top.Given as goal

abbrev pub invariant-loop-w : goal.invariant-loop-w
invariant-loop-w l = record {
  above : l.from / 64 + 1 ≤ l.w;
  none : NoneWithin (have_bit l.tops.items) l.from (64 * l.w);
}

abbrev pub decreases-loop-w : goal.decreases-loop-w
decreases-loop-w l = length l.tops.items - l.w
