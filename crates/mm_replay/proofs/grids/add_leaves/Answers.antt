use Rattle.std.proofs.Common.{arith}
use Rattle.mm_replay.specs.{in_leaves}
use Rattle.mm_replay.proofs.{push_keeps, same_twice}
use Rattle.mm_replay.proofs.grids.add_leaves.Goals as goal

pub loop-preserved : goal.loop-preserved
loop-preserved g c = record {
  same = same_twice (in_leaves c.args.leaves.now.items) (in_leaves c.loop.leaves.items) (in_leaves c.push.new.self.items) c.loop.invariant.same (push_keeps c.loop.leaves.items c.push.new.self.items c.new.result c.in_ok-push.ensures.items c.new.ensures.items);
  counted = omega (arith, c.in_ok-push.ensures.len);
}
