use Rattle.std.proofs.Common.{◌≡◌, ◌++◌, drop}
use Rattle.mm_replay.specs.{frame_at}
use Rattle.mm_replay.specs.Standing.{life}
use Rattle.mm_reports.proofs.lists.requests.Given as goal

abbrev pub invariant-loop-n : goal.invariant-loop-n
invariant-loop-n l = record {
  rest : l.frames.items ++ drop l.n (life l.life).flight ≡ (life l.life).flight;
  next : l.next ≡ frame_at (life l.life).flight l.n;
}
