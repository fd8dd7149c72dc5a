use Rattle.std.proofs.Common.{◌∙◌, refl, arith}
use Rattle.mm_replay.specs.Standing.{life}
use Rattle.mm_log_check.proofs.{stands_none, came_full}
use Rattle.mm_log_check.proofs.checks.check_log.Goals as goal

pub loop-n-init : goal.loop-n-init
loop-n-init g c = record {
  stands = stands_none (g.S.Source.left c.args.source.now) c.new-reader.result (life c.args.checker.now.life) c.args.checker.now.tally (c.new-reader.ensures.none (g.S.Source.left c.args.source.now)) c.requires.life c.requires.tally;
  ready = c.new-reader.ensures.ready;
  lines = c.new-reader.ensures.lines;
  later = omega arith;
  same = refl;
}

pub loop-n-preserved : goal.loop-n-preserved
loop-n-preserved g c = record {
  stands = c.in-Ok.ensures.went (g.S.Source.left c.args.source.now) c.loop-n.invariant.stands;
  ready = c.in-Ok.ensures.ready.0;
  lines = omega (arith, c.in-Ok.ensures.ready.1, c.loop-n.invariant.lines);
  later = omega (arith, c.next.ensures.later, c.loop-n.invariant.later);
  same = c.next.ensures.same (λ e. cc) ∙ c.loop-n.invariant.same;
}

pub returns-clause-came : goal.returns-clause-came
returns-clause-came g c =
    came_full (g.S.Source.left c.args.source.now) (g.S.Source.left c.loop-n.source) c.loop-n.reader (life c.loop-n.checker.life) c.loop-n.checker.tally
    c.loop-n.invariant.ready (omega (arith, c.loop-n.invariant.lines))
