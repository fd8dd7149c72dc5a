use Rattle.std.proofs.Common.{◌≡◌, ◌≤◌}
use Rattle.mm_reasons.specs.{GoesWell, Listens}
use Rattle.mm_io.specs.{sink_seen}
use Rattle.mm_reasons.proofs.talks.listen.Given as goal

abbrev pub invariant-loop-turn : goal.invariant-loop-turn
invariant-loop-turn g l = record {
  listens : Listens (g.S.Source.left l.fn.source) (g.S.Source.left l.source) l.fn.explainer l.fn.line.items l.explainer l.line.items (g.O.Sink.taken l.fn.out) (g.O.Sink.taken l.out);
  source_later : g.S.Source.faults l.fn.source ≤ g.S.Source.faults l.source;
  later : g.O.Sink.faults l.fn.out ≤ g.O.Sink.faults l.out;
  err_later : g.E.Sink.faults l.fn.err ≤ g.E.Sink.faults l.err;
  source_same : g.S.Source.faults l.source ≡ g.S.Source.faults l.fn.source;
  out_well : GoesWell (sink_seen g.O.Sink l.fn.out) (sink_seen g.O.Sink l.out);
  err_well : GoesWell (sink_seen g.E.Sink l.fn.err) (sink_seen g.E.Sink l.err);
}
