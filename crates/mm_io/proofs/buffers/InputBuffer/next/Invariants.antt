use Rattle.std.proofs.Common.{◌≡◌, ◌-◌, ◌≤◌, length}
use Rattle.mm_io.specs.{Filled}
use Rattle.mm_io.proofs.{Recent}
use Rattle.mm_io.proofs.buffers.InputBuffer.next.Given as goal

abbrev pub invariant-loop-n : goal.invariant-loop-n
invariant-loop-n g l = record {
  filled : Filled (g.S.Source.left l.fn.source) (g.S.Source.left l.source) l.fn.self l.self;
  recent : Recent l.self;
  faults : g.S.Source.faults l.source ≡ g.S.Source.faults l.fn.source;
  idle : g.S.Source.idle l.source ≤ g.S.Source.idle l.fn.source;
  loans : g.S.Source.loans l.source ≡ g.S.Source.loans l.fn.source;
}

abbrev pub decreases-loop-n : goal.decreases-loop-n
decreases-loop-n g l = 257 - length l.self
