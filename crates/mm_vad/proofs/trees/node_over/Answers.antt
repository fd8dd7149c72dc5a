use Rattle.std.proofs.Common.{◌∙◌, arith}
use Rattle.mm_vad.specs.{taken_range}
use Rattle.mm_vad.proofs.{node_fork, lowest_fork, highest_fork, left_fork, right_fork}
use Rattle.mm_vad.proofs.trees.node_over.Goals as goal

pub returns-clause-node : goal.returns-clause-node
returns-clause-node c =
    let l = c.args.left in
    let u = c.args.right in
    let p = c.args.pages in
    let m = taken_range p in
    let below = c.span-below.ensures in
    let above = c.span-above.ensures in
    node_fork l u p c.room_up_to-left_gap.result c.room_from-right_gap.result _ below.shaped above.shaped c.requires.near c.requires.within
    (left_fork l m c.span-below.result _ below.is c.room_up_to-left_gap.ensures)
    (right_fork u m c.span-above.result _ above.is c.requires.within c.room_from-right_gap.ensures)
    (c.lowest_from.ensures ∙ lowest_fork l u m c.span-below.result below.is below.shaped)
    (c.highest_from.ensures ∙ highest_fork l u m c.span-above.result above.is above.shaped)
    (omega (arith, c.max.ensures))
    (omega (arith, c.max-2.ensures, below.is.height_is, above.is.height_is))
