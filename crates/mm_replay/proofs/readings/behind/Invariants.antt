use Rattle.std.proofs.Common.{◌≡◌, length}
use Rattle.mm_replay.specs.{strip}
use Rattle.mm_replay.proofs.readings.behind.Given as goal

abbrev pub invariant-loop-left : goal.invariant-loop-left
invariant-loop-left l = strip l.fn.word l.fn.text ≡ strip l.left l.rest

abbrev pub decreases-loop-left : goal.decreases-loop-left
decreases-loop-left l = length l.left
