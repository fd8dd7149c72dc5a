use Rattle.std.proofs.Common.{◌∷◌, length, ap, arith, length-append}
use Rattle.mm_vad.specs.{taken_range}
use Rattle.mm_vad.proofs.trees.balance.Goals as goal

pub fork-requires-clause-few : goal.fork-requires-clause-few
fork-requires-clause-few c =
    let t = c.turn-left.result in
    omega (arith, c.requires.few, ap length c.turn-left.ensures.ranges, length-append t.0.ranges (taken_range t.1 ∷ t.2.ranges), length-append c.args.left.ranges (taken_range c.deref.result.now.pages ∷ c.args.right.ranges))
