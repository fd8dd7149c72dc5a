use Rattle.std.proofs.Common.{◌-◌, arith}
use Rattle.mm_generate.specs.{outputs}
use Rattle.mm_generate.proofs.{one_more, all_drawn}
use Rattle.mm_generate.proofs.events.script.Goals as goal

pub loop-drawn-preserved : goal.loop-drawn-preserved
loop-drawn-preserved c = record {
  len = omega (arith, c.push.ensures.len, c.loop-drawn.invariant.len);
  capacity = omega (arith, c.push.ensures.capacity, c.loop-drawn.invariant.capacity);
  events =
      one_more c.loop-drawn.events.items c.push.new.events.items _ c.event.result c.args.count c.loop-drawn._drawn c.loop-drawn.words c.event.new.words c.loop-drawn-test.true c.push.ensures.items c.event.ensures c.loop-drawn.invariant.events;
}

pub returns : goal.returns
returns c =
    all_drawn c.loop-drawn.events.items _ (c.args.count - c.loop-drawn._drawn) (outputs c.loop-drawn.words) (omega arith) c.loop-drawn.invariant.events
