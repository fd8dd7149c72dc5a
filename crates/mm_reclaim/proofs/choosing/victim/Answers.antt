use Rattle.std.proofs.Common.{◌+◌, refl, arith}
use Rattle.mm_reclaim.proofs.{settled_answer, best_answer}
use Rattle.mm_reclaim.proofs.choosing.victim.Goals as goal

pub returns-then-is_settled : goal.returns-then-is_settled
returns-then-is_settled g c = settled_answer _ (g.met.T.StateCalls.holds c.args.state.now) _ (c.loop-n.n + 1) _ (c.if-is_settled.ensures refl) c.better-best.ensures.below

pub returns : goal.returns
returns g c = best_answer (g.T.StateCalls.shown c.args.state.now) (g.met.T.StateCalls.holds c.args.state.now) c.args.pinned c.loop-n.n c.loop-n.best (omega (arith, c.loop-n-test.false)) c.loop-n.invariant.best
