use Rattle.std.proofs.Common.{◌≡◌, ◌++◌, drop}
use Rattle.mm_replay.specs.{frames_on, frame_at}
use Rattle.mm_replay.specs.Standing.{life}
use Rattle.mm_reports.proofs.lists.frames_on.Given as goal

abbrev pub invariant-loop-n : goal.invariant-loop-n
invariant-loop-n l = record {
  rest : l.frames.items ++ drop l.n (frames_on (life l.life).frames l.fn.list) ≡ frames_on (life l.life).frames l.fn.list;
  next : l.next ≡ frame_at (frames_on (life l.life).frames l.fn.list) l.n;
}
