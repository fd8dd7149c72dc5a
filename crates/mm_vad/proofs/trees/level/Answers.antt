use Rattle.std.proofs.Common.{◌∷◌, length, ap, arith, length-append}
use Rattle.mm_vad.specs.{taken_range, range_in, TreeOf}
use Rattle.mm_vad.proofs.trees.level.Goals as goal

pub node_over-requires-clause-few : goal.node_over-requires-clause-few
node_over-requires-clause-few c =
    let l = c.replace-left.result in
    let u = c.replace-right.result in
    let t = c.turn-left.result in
    omega (
      arith,
      c.requires.few,
      ap (λ (x : TreeOf). length x.ranges) c.replace-left.ensures.value,
      ap (λ (x : TreeOf). length x.ranges) c.replace-right.ensures.value,
      ap length c.turn-left.ensures.ranges,
      length-append t.0.ranges (taken_range t.1 ∷ t.2.ranges),
      length-append l.ranges (range_in c.args.node.now ∷ u.ranges),
    )
