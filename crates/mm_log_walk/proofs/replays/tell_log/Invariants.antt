use Rattle.std.proofs.Common.{◌≡◌, ◌≤◌}
use Rattle.mm_replay.specs.Standing.{life}
use Rattle.mm_log_check.specs.{IsReadyToRead}
use Rattle.mm_log_walk.specs.{Tells, beside}
use Rattle.mm_log_walk.proofs.replays.tell_log.Given as goal

abbrev pub invariant-loop-n : goal.invariant-loop-n
invariant-loop-n g l = record {
  tells : Tells (g.S.Source.left l.fn.source) (g.S.Source.left l.source) (g.O.Sink.taken l.fn.out) (g.O.Sink.taken l.out) (beside l.script l.answers) l.reader (g.T.Teller.rest l.fn.teller) (g.T.Teller.rest l.teller) (life l.life) l.text.items;
  ready : IsReadyToRead l.reader;
  lines : l.reader.lines ≡ l.n;
  counted : g.T.Teller.counted l.teller ≤ l.n;
  source_later : g.S.Source.faults l.fn.source ≤ g.S.Source.faults l.source;
  out_later : g.O.Sink.faults l.fn.out ≤ g.O.Sink.faults l.out;
  source_same : g.S.Source.faults l.source ≡ g.S.Source.faults l.fn.source;
  out_same : g.O.Sink.faults l.out ≡ g.O.Sink.faults l.fn.out;
}
