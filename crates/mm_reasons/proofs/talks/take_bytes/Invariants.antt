use Rattle.std.proofs.Common.{◌≤◌, take}
use Rattle.mm_reasons.specs.{GoesWell, Hears}
use Rattle.mm_io.specs.{sink_seen}
use Rattle.mm_reasons.proofs.talks.take_bytes.Given as goal

abbrev pub invariant-loop-byte : goal.invariant-loop-byte
invariant-loop-byte g l = record {
  heard : Hears l.fn.explainer l.fn.line.items l.explainer l.line.items (take l.byte-index l.bytes) (g.O.Sink.taken l.fn.out) (g.O.Sink.taken l.out);
  later : g.O.Sink.faults l.fn.out ≤ g.O.Sink.faults l.out;
  err_later : g.E.Sink.faults l.fn.err ≤ g.E.Sink.faults l.err;
  out_well : GoesWell (sink_seen g.O.Sink l.fn.out) (sink_seen g.O.Sink l.out);
  err_well : GoesWell (sink_seen g.E.Sink l.fn.err) (sink_seen g.E.Sink l.err);
}
