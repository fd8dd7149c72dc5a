use Rattle.std.proofs.Common.{arith, sym}
use Rattle.std.proofs.lemmas.List.{take_all, length-take}
use Rattle.mm_log_walk.proofs.shown.front.Goals as goal

pub slice_bounds-result-end : goal.slice_bounds-result-end
slice_bounds-result-end c = omega (arith, length-take 256 c.args.line.now, c.if-line-gt256.true)

pub returns-else-line-gt256 : goal.returns-else-line-gt256
returns-else-line-gt256 c = sym (take_all 256 c.args.line.now (omega (arith, c.if-line-gt256.false)))
