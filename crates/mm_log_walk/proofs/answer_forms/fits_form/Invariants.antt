use Rattle.std.proofs.Common.{◌≡◌, length, Some}
use Rattle.mm_log_walk.specs.{behind_form}
use Rattle.mm_log_walk.proofs.answer_forms.fits_form.Given as goal

abbrev pub invariant-loop-left : goal.invariant-loop-left
invariant-loop-left l = behind_form l.form (Some l.text) ≡ behind_form l.left (Some l.rest)

abbrev pub decreases-loop-left : goal.decreases-loop-left
decreases-loop-left l = length l.left
