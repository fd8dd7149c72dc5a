use Rattle.mm_run.proofs.{goes_here}
use Rattle.mm_run.proofs.decisions.make_room.Goals as goal

pub returns-then-has_room-clause-steps : goal.returns-then-has_room-clause-steps
returns-then-has_room-clause-steps g c = λ input held n few short. goes_here _ _ _
