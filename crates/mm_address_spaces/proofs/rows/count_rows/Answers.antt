use Rattle.std.proofs.Common.{◌≡◌, ◌+◌, ◌≤◌, take, count_by, sym, ◌∙◌, arith}
use Rattle.mm_address_spaces.specs.{passes}
use Rattle.mm_address_spaces.proofs.{AreEqual, behind, counted_yes, counted_no}
use Rattle.mm_address_spaces.proofs.rows.count_rows.Goals as goal
use Rattle.mm_address_spaces.proofs.rows.count_rows.Goals.{then-holds, else-holds}

pub loop-done-preserved : goal.loop-done-preserved
loop-done-preserved c =
    let rows = c.args.rows.now in
    let kind = c.args.region_kind in
    let p = passes c.args.test kind in
    let found = c.equal_from-n.result in
    let done = c.loop-done.done in
    let n = c.equal_from-n.result.1 in
    let low : n ≤ found.1 = omega arith in
    let e : AreEqual rows c.args.first done found.1 found.0 = record { inside = omega (arith, c.requires.inside, c.equal_from-n.ensures.within); equal = c.equal_from-n.ensures.equal } in
    let bounded : c.if-holds.passing ≤ done + n = elim c.if-holds.branch [
      | then-holds w ↦ omega (arith, w.passing-is, c.loop-done.invariant.1)
      | else-holds w ↦ omega (arith, w.passing-is, c.loop-done.invariant.1)
    ] in
    let counted : c.if-holds.passing ≡ count_by p (take (done + n) (behind kind rows c.args.first)) = elim c.if-holds.branch [
      | then-holds w ↦ omega (arith, w.passing-is, c.loop-done.invariant.2, counted_yes p kind rows c.args.first done found.1 found.0 e (sym c.holds.ensures ∙ w.if-holds.true) n low)
      | else-holds w ↦ omega (arith, w.passing-is, c.loop-done.invariant.2, counted_no p kind rows c.args.first done found.1 found.0 e (sym c.holds.ensures ∙ w.if-holds.false) n low)
    ] in
    (omega (arith, c.equal_from-n.ensures.within), bounded, counted)
