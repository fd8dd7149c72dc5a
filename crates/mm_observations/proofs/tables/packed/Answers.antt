use Rattle.std.proofs.Common.{◌+◌, Ok, Err, sym, ◌∙◌, subst, arith}
use Rattle.mm_types.specs.{Text}
use Rattle.mm_observations.specs.{RefusesFile}
use Rattle.mm_observations.specs.Packs.{Packs}
use Rattle.mm_observations.proofs.{file_longer, file_more, file_refused, from_same}
use Rattle.mm_observations.proofs.tables.packed.Goals as goal
use Rattle.mm_observations.proofs.tables.packed.Goals.{then-bytes-i-eq10+in-Ok, else-bytes-i-eq10}

pub returns-in-Err : goal.returns-in-Err
returns-in-Err c =
    let l = c.loop-i in
    let run = c.args.run.now in
    let bytes = c.args.bytes.now in
    let fault = c.in-Err.fault in
    let packs : Packs run l.packing l.number c.without_return.result.now (Err fault) c.take.new.self = subst (λ r. Packs run l.packing l.number c.without_return.result.now r c.take.new.self) c.in-Err.is c.take.ensures in
    subst (λ r. RefusesFile r fault) (sym l.invariant.packed)
    (file_refused run bytes l.start l.i l.number l.packing l.invariant.order c.loop-i-test.true c.take.new.self fault c.if-bytes-i-eq10.true
    (subst (λ (t : Text). Packs run l.packing l.number t (Err fault) c.take.new.self) c.without_return.ensures.body packs))

pub loop-i-preserved : goal.loop-i-preserved
loop-i-preserved c =
    let l = c.loop-i in
    let run = c.args.run.now in
    let bytes = c.args.bytes.now in
    let next = c.if-bytes-i-eq10 in
    elim c.if-bytes-i-eq10.branch [
      | then-bytes-i-eq10+in-Ok w ↦
          let packs : Packs run l.packing l.number w.without_return.result.now (Ok w.in-Ok.field-0) w.take.new.self = subst (λ r. Packs run l.packing l.number w.without_return.result.now r w.take.new.self) w.in-Ok.is w.take.ensures in
          record {
            order = omega (arith, w.start-is);
            count = omega (arith, w.number-is, l.invariant.count);
            packed = l.invariant.packed
                ∙ (file_more run bytes l.start l.i l.number l.packing l.invariant.order c.loop-i-test.true w.take.new.self w.if-bytes-i-eq10.true
                (subst (λ (t : Text). Packs run l.packing l.number t (Ok w.in-Ok.field-0) w.take.new.self) w.without_return.ensures.body packs)
                ∙ from_same run bytes (l.i + 1) next.packing w.take.new.self next.number (l.number + 1) next.start (l.i + 1) w.packing-is w.number-is w.start-is);
          }
      | else-bytes-i-eq10 w ↦ record {
        order = omega (arith, w.start-is, l.invariant.order);
        count = omega (arith, w.number-is, l.invariant.count);
        packed = l.invariant.packed
            ∙ (file_longer run bytes l.start l.i l.number l.packing l.invariant.order c.loop-i-test.true w.if-bytes-i-eq10.false
            ∙ from_same run bytes (l.i + 1) next.packing l.packing next.number l.number next.start l.start w.packing-is w.number-is w.start-is);
      }
    ]
