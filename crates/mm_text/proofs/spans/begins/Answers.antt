use Rattle.std.proofs.Common.{arith}
use Rattle.mm_text.proofs.{begun_more, begun_all}
use Rattle.mm_text.proofs.spans.begins.Goals as goal

pub loop-i-preserved : goal.loop-i-preserved
loop-i-preserved c = begun_more c.args.line.now c.args.text.now c.args.from c.loop-i.i (omega arith) (omega arith) (omega arith) c.loop-i.invariant

pub returns : goal.returns
returns c = λ h. begun_all c.args.line.now c.args.text.now c.args.from c.loop-i.i (omega arith) (omega arith) c.loop-i.invariant
