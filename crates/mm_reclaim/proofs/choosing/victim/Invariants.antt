use Rattle.std.proofs.Common.{◌≡◌, true}
use Rattle.std.specs.Option.{ForSome}
use Rattle.mm_frame_laws.specs.{BestBelow}
use Rattle.mm_reclaim.proofs.choosing.victim.Given as goal

abbrev pub invariant-loop-n : goal.invariant-loop-n
invariant-loop-n g l = record {
  best : BestBelow (g.T.StateCalls.shown l.state).life (g.T.StateCalls.shown l.state).ages l.pinned l.n l.best;
  open_best : ForSome l.best (λ v. (g.T.StateCalls.shown l.state).is_open v.pid.0 ≡ true);
}
