use Rattle.std.proofs.Common.{◌≡◌, ◌≤◌, ◌++◌, map, drop}
use Rattle.std.specs.Prelude.{slice_range}
use Rattle.mm_log_walk.specs.{extent_text, lines_from, lines_of}
use Rattle.mm_log_walk.proofs.lines.divided.Given as goal

abbrev pub invariant-loop-i : goal.invariant-loop-i
invariant-loop-i l = record {
  order : l.start ≤ l.i;
  divided : map (extent_text l.bytes) l.extents.items ++ lines_from (slice_range l.bytes l.start l.i) (drop l.i l.bytes) ≡ lines_of l.bytes;
}
