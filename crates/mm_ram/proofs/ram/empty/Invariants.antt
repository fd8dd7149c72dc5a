use Rattle.std.proofs.Common.{◌≡◌}
use Rattle.mm_ram.proofs.{Emptied}
use Rattle.mm_ram.proofs.ram.empty.Given as goal

abbrev pub invariant-loop-i : goal.invariant-loop-i
invariant-loop-i l = record {
  at : l.base.ptr ≡ l.cells.at;
  emptied : Emptied l.fn.cells.slots l.cells.slots l.i;
}
