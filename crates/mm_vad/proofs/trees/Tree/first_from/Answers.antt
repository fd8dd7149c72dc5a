use Rattle.std.proofs.Common.{ap, sym, ◌∙◌, option_map, find, subst, ◌∷◌}
use Rattle.std.specs.Prelude.{nat_le}
use Rattle.std.specs.Option.{option_or}
use Rattle.mm_vad.specs.{LieApart, first_and_count, range_in}
use Rattle.mm_vad.proofs.{apart_front, apart_back, first_before, first_right}
use Rattle.mm_vad.proofs.trees.Tree.first_from.Goals as goal

pub loop-node-preserved-then-pages-v : goal.loop-node-preserved-then-pages-v
loop-node-preserved-then-pages-v c =
    let n = c.in-Some.node.now in
    let e = c.in-Some.ensures.node.fork.ranges in
    let apart = subst (LieApart 0) e c.loop-node.invariant.apart in
    let right = first_right c.args.v 0 n.left.ranges (range_in n) n.right.ranges apart c.if-pages-v.true in
    record {
      apart = apart_back 0 n.left.ranges (range_in n) n.right.ranges apart;
      same = sym (ap (λ o. option_or (option_map first_and_count o) c.loop-node.above) (ap (find (λ r. nat_le c.args.v r.first)) e ∙ right)) ∙ c.loop-node.invariant.same;
    }

pub loop-node-preserved : goal.loop-node-preserved
loop-node-preserved c =
    let n = c.in-Some.node.now in
    let e = c.in-Some.ensures.node.fork.ranges in
    let apart = subst (LieApart 0) e c.loop-node.invariant.apart in
    let left = first_before first_and_count c.args.v n.left.ranges (range_in n) n.right.ranges c.loop-node.above c.if-pages-v.false in
    record {
      apart = apart_front 0 n.left.ranges (range_in n ∷ n.right.ranges) apart;
      same = sym (ap (λ rs. option_or (option_map first_and_count (find (λ r. nat_le c.args.v r.first) rs)) c.loop-node.above) e ∙ left) ∙ c.loop-node.invariant.same;
    }
