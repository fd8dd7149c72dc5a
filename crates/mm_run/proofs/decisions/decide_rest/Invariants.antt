use Rattle.std.proofs.Common.{◌≡◌}
use Rattle.mm_dispatch.specs.{loans}
use Rattle.mm_run.specs.{GoesOn, IsBetween, moment_seen, world_seen}
use Rattle.mm_run.proofs.decisions.decide_rest.Given as goal

abbrev pub invariant-loop-n : goal.invariant-loop-n
invariant-loop-n g l = record {
  goes : GoesOn l.fn.held 1 l.held l.n
      (moment_seen g.S.Source g.O.Sink l.fn.source l.fn.out l.fn.kept l.fn.world)
      (moment_seen g.S.Source g.O.Sink l.source l.out l.kept l.world);
  between : IsBetween l.n l.held (world_seen l.world);
  same : loans l.world ≡ loans l.fn.world;
}
