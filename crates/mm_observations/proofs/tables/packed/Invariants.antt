use Rattle.std.proofs.Common.{◌≡◌, ◌+◌, ◌≤◌, drop}
use Rattle.std.specs.Prelude.{slice_range}
use Rattle.mm_observations.specs.{packed, file_rows_from, packs_on}
use Rattle.mm_observations.proofs.tables.packed.Given as goal

-- what was packed so far, and the rows that are left
abbrev pub invariant-loop-i : goal.invariant-loop-i
invariant-loop-i l = record {
  order : l.start ≤ l.i;
  count : l.number ≤ l.i + 1;
  packed : packed l.run l.bytes ≡ packs_on l.run l.packing l.number (file_rows_from (slice_range l.bytes l.start l.i) (drop l.i l.bytes));
}
