use Rattle.std.proofs.Common.{◌≡◌, ℕ, ◌+◌, ◌<◌, ◌≤◌, get_or, length}
use Rattle.mm_io.proofs.buffers.move_front.Given as goal

abbrev pub invariant-loop-i : goal.invariant-loop-i
invariant-loop-i l = record {
  same : length l.bytes ≡ length l.initial.bytes;
  moved : (k : ℕ) → k < l.i → get_or l.bytes k 0 ≡ get_or l.initial.bytes (l.start + k) 0;
  rest : (k : ℕ) → l.i ≤ k → get_or l.bytes k 0 ≡ get_or l.initial.bytes k 0;
}
