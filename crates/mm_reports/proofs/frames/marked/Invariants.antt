use Rattle.std.proofs.Common.{◌≡◌, ℕ, ◌<◌, false, drop, length}
use Rattle.std.specs.Prelude.{◌||◌, slice_index_or}
use Rattle.mm_move_rules.specs.{is_on}
use Rattle.mm_reports.proofs.frames.marked.Given as goal

abbrev pub invariant-loop-frame : goal.invariant-loop-frame
invariant-loop-frame l = record {
  sized : length l.marks.items ≡ l.count;
  marked : (f : ℕ) → f < l.count → (slice_index_or l.marks.items f false || is_on f (drop l.frame-index l.frames)) ≡ is_on f l.frames;
}
