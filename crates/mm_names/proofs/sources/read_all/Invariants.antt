use Rattle.std.proofs.Common.{◌≡◌, ◌≤◌, length}
use Rattle.mm_types.specs.{Took}
use Rattle.mm_names.specs.{most_bytes}
use Rattle.mm_names.proofs.sources.read_all.Given as goal

abbrev pub invariant-loop-n : goal.invariant-loop-n
invariant-loop-n g l = record {
  took : Took (g.S.Source.left l.fn.source) (g.S.Source.left l.source) l.text.items;
  few : length l.text.items ≤ most_bytes;
  some : l.n ≤ length l.text.items;
  same : g.S.Source.faults l.source ≡ g.S.Source.faults l.fn.source;
  later : g.S.Source.faults l.fn.source ≤ g.S.Source.faults l.source;
}
