use Rattle.std.proofs.Common.{◌≡◌, length}
use Rattle.mm_log_walk.specs.{behind_run}
use Rattle.mm_log_walk.proofs.answer_forms.behind_run.Given as goal

abbrev pub invariant-loop-left : goal.invariant-loop-left
invariant-loop-left l = behind_run l.form l.text ≡ behind_run l.form l.left

abbrev pub decreases-loop-left : goal.decreases-loop-left
decreases-loop-left l = length l.left
