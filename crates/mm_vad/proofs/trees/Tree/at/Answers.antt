use Rattle.std.proofs.Common.{ap, sym, ◌∙◌, option_map, find, subst, ◌∷◌, arith}
use Rattle.mm_types.specs.{holds_page}
use Rattle.mm_vad.specs.{LieApart, first_and_count, range_in}
use Rattle.mm_vad.proofs.{apart_front, apart_back, at_left, at_middle, at_right}
use Rattle.mm_vad.proofs.trees.Tree.at.Goals as goal

pub loop-node-preserved-then-v-pages : goal.loop-node-preserved-then-v-pages
loop-node-preserved-then-v-pages c =
    let n = c.in-Some.node.now in
    let e = c.in-Some.ensures.node.fork.ranges in
    let apart = subst (LieApart 0) e c.loop-node.invariant.apart in
    record {
      apart = apart_front 0 n.left.ranges (range_in n ∷ n.right.ranges) apart;
      same = sym (ap (find (λ r. holds_page r c.args.v)) e ∙ at_left c.args.v 0 n.left.ranges (range_in n) n.right.ranges apart c.if-v-pages.true)
          ∙ c.loop-node.invariant.same;
    }

pub returns-then-v-end : goal.returns-then-v-end
returns-then-v-end c =
    let n = c.in-Some.node.now in
    let e = c.in-Some.ensures.node.fork.ranges in
    let apart = subst (LieApart 0) e c.loop-node.invariant.apart in
    ap (option_map first_and_count)
    (sym (at_middle c.args.v 0 n.left.ranges (range_in n) n.right.ranges apart c.if-v-pages.false (omega (arith, c.if-v-end.true, c.end.ensures)))
    ∙ sym (ap (find (λ r. holds_page r c.args.v)) e)
    ∙ c.loop-node.invariant.same)

pub loop-node-preserved : goal.loop-node-preserved
loop-node-preserved c =
    let n = c.in-Some.node.now in
    let e = c.in-Some.ensures.node.fork.ranges in
    let apart = subst (LieApart 0) e c.loop-node.invariant.apart in
    record {
      apart = apart_back 0 n.left.ranges (range_in n) n.right.ranges apart;
      same = sym (ap (find (λ r. holds_page r c.args.v)) e ∙ at_right c.args.v 0 n.left.ranges (range_in n) n.right.ranges apart (omega (arith, c.if-v-end.false, c.end.ensures)))
          ∙ c.loop-node.invariant.same;
    }
