use Rattle.std.proofs.Common.{◌∙◌, refl, arith}
use Rattle.mm_replay.specs.Standing.{life}
use Rattle.mm_log_walk.specs.{beside}
use Rattle.mm_log_walk.proofs.{tells_none, closes_full}
use Rattle.mm_log_walk.proofs.replays.tell_log.Goals as goal

pub loop-n-init : goal.loop-n-init
loop-n-init g c = record {
  tells = tells_none (g.S.Source.left c.args.source.now) (g.O.Sink.taken c.args.out.now) (beside c.args.script.now c.args.answers.now) c.new-reader.result (g.T.Teller.rest c.args.teller.now) (life c.args.life.now) c.args.text.now.items (c.new-reader.ensures.none (g.S.Source.left c.args.source.now)) c.requires.life c.requires.none;
  ready = c.new-reader.ensures.ready;
  lines = c.new-reader.ensures.lines;
  counted = omega (arith, c.requires.counted);
  source_later = omega arith;
  out_later = omega arith;
  source_same = refl;
  out_same = refl;
}

pub loop-n-preserved : goal.loop-n-preserved
loop-n-preserved g c = record {
  tells = c.in-Ok.ensures.told (g.S.Source.left c.args.source.now) (g.O.Sink.taken c.args.out.now) (g.T.Teller.rest c.args.teller.now) c.loop-n.invariant.tells;
  ready = c.in-Ok.ensures.ready.0;
  lines = omega (arith, c.in-Ok.ensures.ready.1, c.loop-n.invariant.lines);
  counted = omega (arith, c.next.ensures.counted, c.loop-n.invariant.counted);
  source_later = omega (arith, c.next.ensures.later.0, c.loop-n.invariant.source_later);
  out_later = omega (arith, c.next.ensures.later.1, c.loop-n.invariant.out_later);
  source_same = c.next.ensures.source_same (λ e. cc) ∙ c.loop-n.invariant.source_same;
  out_same = c.next.ensures.out_same (λ e. cc) ∙ c.loop-n.invariant.out_same;
}

pub returns-in-Err-clause-halts : goal.returns-in-Err-clause-halts
returns-in-Err-clause-halts g c =
    c.in-Err.ensures.told (g.S.Source.left c.args.source.now) (g.O.Sink.taken c.args.out.now) (g.T.Teller.rest c.args.teller.now) c.loop-n.invariant.tells

pub returns-clause-halts : goal.returns-clause-halts
returns-clause-halts g c =
    closes_full (g.S.Source.left c.args.source.now) (g.S.Source.left c.loop-n.source) (g.O.Sink.taken c.args.out.now) (g.O.Sink.taken c.loop-n.out) (beside c.args.script.now c.args.answers.now) c.loop-n.reader (g.T.Teller.rest c.args.teller.now) (g.T.Teller.rest c.loop-n.teller) (life c.loop-n.life) c.loop-n.text.items
    c.loop-n.invariant.ready (omega (arith, c.loop-n.invariant.lines))
