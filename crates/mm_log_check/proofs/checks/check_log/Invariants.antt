use Rattle.std.proofs.Common.{◌≡◌, ◌≤◌}
use Rattle.mm_replay.specs.Standing.{life}
use Rattle.mm_log_check.specs.{IsReadyToRead, MovesWereTaken}
use Rattle.mm_log_check.proofs.checks.check_log.Given as goal

abbrev pub invariant-loop-n : goal.invariant-loop-n
invariant-loop-n g l = record {
  stands : MovesWereTaken (g.S.Source.left l.fn.source) (g.S.Source.left l.source) l.reader (life l.checker.life) l.checker.tally;
  ready : IsReadyToRead l.reader;
  lines : l.reader.lines ≡ l.n;
  later : g.S.Source.faults l.fn.source ≤ g.S.Source.faults l.source;
  same : g.S.Source.faults l.source ≡ g.S.Source.faults l.fn.source;
}
