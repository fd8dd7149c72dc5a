use Rattle.std.proofs.Common.{◌≡◌}
use Rattle.mm_types.specs.{Took}
use Rattle.mm_log_walk.proofs.files.read_all.Given as goal

abbrev pub invariant-loop-n : goal.invariant-loop-n
invariant-loop-n g l = record {
  took : Took (g.F.Source.left l.fn.file) (g.F.Source.left l.file) l.bytes.items;
  same : g.F.Source.faults l.file ≡ g.F.Source.faults l.fn.file;
}
