use Rattle.std.proofs.Common.{◌∙◌, refl, arith}
use Rattle.mm_reclaim.proofs.{trims_none, trims_more, trims_over, trims_all}
use Rattle.mm_reclaim.proofs.chores.trim.Goals as goal

pub loop-trimmed-init : goal.loop-trimmed-init
loop-trimmed-init g c = record { few = omega arith; trims = trims_none c.args.pid (g.T.StateCalls.shown c.args.state.now); loans = refl }

pub loop-trimmed-preserved : goal.loop-trimmed-preserved
loop-trimmed-preserved g c = record {
  few = omega arith;
  trims = trims_more c.args.pid c.loop-trimmed._trimmed _ _ _ c.loop-trimmed.invariant.trims c.if-not-trim_one.ensures.trims;
  loans = c.trim_one.ensures.loans ∙ c.loop-trimmed.invariant.loans;
}

pub returns-then-not-trim_one-clause-trimmed : goal.returns-then-not-trim_one-clause-trimmed
returns-then-not-trim_one-clause-trimmed g c =
    trims_over c.args.pid c.args.n c.loop-trimmed._trimmed _ _ _ c.loop-trimmed.invariant.few c.loop-trimmed.invariant.trims c.if-not-trim_one.ensures.trims

pub returns-clause-trimmed : goal.returns-clause-trimmed
returns-clause-trimmed g c =
    trims_all c.args.pid c.args.n c.loop-trimmed._trimmed _ _ c.loop-trimmed.invariant.few c.loop-trimmed-test.false c.loop-trimmed.invariant.trims
