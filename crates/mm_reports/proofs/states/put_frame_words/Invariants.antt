use Rattle.std.proofs.Common.{◌≡◌, ◌++◌, drop}
use Rattle.std.specs.Prelude.{flat_map}
use Rattle.mm_reports.specs.{frame_word}
use Rattle.mm_reports.proofs.states.put_frame_words.Given as goal

abbrev pub invariant-loop-frame : goal.invariant-loop-frame
invariant-loop-frame l = l.text.items ++ flat_map frame_word (drop l.frame-index l.frames) ≡ l.fn.text.items ++ flat_map frame_word l.frames
