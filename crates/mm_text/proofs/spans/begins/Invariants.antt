use Rattle.std.proofs.Common.{◌≡◌, ◌+◌, take}
use Rattle.std.specs.Prelude.{slice_range}
use Rattle.mm_text.proofs.spans.begins.Given as goal

abbrev pub invariant-loop-i : goal.invariant-loop-i
invariant-loop-i l = slice_range l.line l.from (l.from + l.i) ≡ take l.i l.text
