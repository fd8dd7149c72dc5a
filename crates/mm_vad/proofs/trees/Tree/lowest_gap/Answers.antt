use Rattle.std.proofs.Common.{◌<◌, ap, sym, ◌∙◌, [], ◌∷◌, ◌++◌, arith}
use Rattle.mm_types.specs.{end_of_user_pages}
use Rattle.mm_vad.specs.{room, lowest, first_fit, widest, range_in}
use Rattle.mm_vad.proofs.{fit_left, fit_right, visits_more}
use Rattle.mm_vad.proofs.trees.Tree.lowest_gap.Goals as goal

pub returns-then-n-room_between-clause-few : goal.returns-then-n-room_between-clause-few
returns-then-n-room_between-clause-few g c =
    let v = c.loop-node.invariant in
    visits_more g.L.Ledger.stepped _ _ _ _ c.args.self.now.height c.in-Some.ensures.counted (omega (arith, v.lower, c.in-Some.ensures.node.fork.height)) v.few

pub returns-then-n-room_between-clause-shaped : goal.returns-then-n-room_between-clause-shaped
returns-then-n-room_between-clause-shaped g c = c.loop-node.invariant.shaped c.visit.ensures.shaped

pub loop-node-preserved-then-n-node : goal.loop-node-preserved-then-n-node
loop-node-preserved-then-n-node g c =
    let v = c.loop-node.invariant in
    let n = c.in-Some.node.now in
    let s = c.in-Some.ensures.node in
    record {
      within = v.within;
      same = sym (ap (λ rs. first_fit c.loop-node.from rs c.loop-node.to c.args.n) s.fork.ranges
          ∙ fit_left c.loop-node.from n.left.ranges (range_in n) n.right.ranges c.loop-node.to c.args.n v.within (rw s.left_gap at c.if-n-node.true))
          ∙ v.same;
      shaped = λ h. v.shaped c.visit.ensures.shaped;
      lower = omega (arith, v.lower, s.fork.height);
      few = visits_more g.L.Ledger.stepped _ _ _ _ _ c.in-Some.ensures.counted (omega (arith, v.lower, s.fork.height)) v.few;
    }

pub loop-node-preserved : goal.loop-node-preserved
loop-node-preserved g c =
    let v = c.loop-node.invariant in
    let n = c.in-Some.node.now in
    let s = c.in-Some.ensures.node in
    let first : room c.loop-node.from (lowest (n.left.ranges ++ range_in n ∷ n.right.ranges)) < c.args.n = rw (← s.fork.ranges, ← s.span.lowest_is, ← c.room_between.ensures) c.if-n-room_between.false in
    let small : widest end_of_user_pages (n.left.ranges ++ range_in n ∷ []) < c.args.n = rw (← s.left_gap) c.if-n-node.false in
    record {
      within = omega (arith, c.end-from.ensures, s.within);
      same = ap (λ low. first_fit low n.right.ranges c.loop-node.to c.args.n) c.end-from.ensures
          ∙ sym (ap (λ rs. first_fit c.loop-node.from rs c.loop-node.to c.args.n) s.fork.ranges
          ∙ fit_right c.loop-node.from n.left.ranges (range_in n) n.right.ranges c.loop-node.to c.args.n v.within first small)
          ∙ v.same;
      shaped = λ h. v.shaped c.visit.ensures.shaped;
      lower = omega (arith, v.lower, s.fork.height);
      few = visits_more g.L.Ledger.stepped _ _ _ _ _ c.in-Some.ensures.counted (omega (arith, v.lower, s.fork.height)) v.few;
    }

pub returns-then-n-room_between-2-clause-shaped : goal.returns-then-n-room_between-2-clause-shaped
returns-then-n-room_between-2-clause-shaped g c = c.loop-node.invariant.shaped c.visit.ensures.shaped

pub returns-else-n-room_between-2-clause-shaped : goal.returns-else-n-room_between-2-clause-shaped
returns-else-n-room_between-2-clause-shaped g c = c.loop-node.invariant.shaped c.visit.ensures.shaped
