use Rattle.std.proofs.Common.{◌≡◌, ◌++◌, take, drop}
use Rattle.mm_log_walk.specs.{first_word}
use Rattle.mm_log_walk.proofs.words.first_word.Given as goal

abbrev pub invariant-loop-i : goal.invariant-loop-i
invariant-loop-i l = first_word l.line ≡ take l.i l.line ++ first_word (drop l.i l.line)
