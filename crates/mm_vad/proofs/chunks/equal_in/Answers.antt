use Rattle.std.proofs.Common.{◌∙◌, sym, arith}
use Rattle.mm_vad.proofs.{equal_run, equal_if_eq, equal_more}
use Rattle.mm_vad.proofs.chunks.equal_in.Goals as goal

pub loop-n-preserved : goal.loop-n-preserved
loop-n-preserved c = (
  omega arith,
  omega (arith, c.loop-n-test.true),
  equal_more c.args.rows.now c.args.at c.loop-n.n _ _ (omega (arith, c.requires.inside, c.loop-n-test.true)) c.loop-n.invariant.2 (equal_if_eq _ _ (sym c.eq.ensures ∙ c.if-eq.true)),
)

pub returns-else-eq : goal.returns-else-eq
returns-else-eq c =
    let v = c.loop-n.invariant in
    record { some = v.0; within = v.1; equal = equal_run c.args.rows.now c.args.at c.loop-n.n _ (omega (arith, c.requires.inside, v.1)) v.2 }

pub returns-after-loop-n : goal.returns-after-loop-n
returns-after-loop-n c =
    let v = c.loop-n.invariant in
    record { some = v.0; within = v.1; equal = equal_run c.args.rows.now c.args.at c.loop-n.n _ (omega (arith, c.requires.inside, v.1)) v.2 }
