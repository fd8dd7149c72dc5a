use Rattle.std.proofs.Common.{◌≡◌, ◌<◌, ◌+◌, false, length}
use Rattle.mm_dispatch.specs.{line_number}
use Rattle.mmunpaged.proofs.decide_lines.Given as goal

abbrev pub invariant-loop-n : goal.invariant-loop-n
invariant-loop-n g l = record {
  line : line_number l.world + 1 ≡ l.n;
  ready : l.world.spent ≡ false;
  room : length l.held < 4096;
}
