use Rattle.std.proofs.Common.{◌∙◌, refl, arith}
use Rattle.mm_reclaim.specs.{writings}
use Rattle.mm_reclaim.proofs.{no_writing, chain_none, chain_more, chain_over, chain_all}
use Rattle.mm_reclaim.proofs.chores.write_out.Goals as goal

pub loop-begun-init : goal.loop-begun-init
loop-begun-init g c = record { few = omega arith; rounds = chain_none writings c.args.n (g.T.StateCalls.shown c.args.state.now); loans = refl }

pub write_one-requires : goal.write_one-requires
write_one-requires g c = record { kind = c.loop-begun.invariant.rounds.kind ∙ c.requires.kind }

pub loop-begun-preserved : goal.loop-begun-preserved
loop-begun-preserved g c = record {
  few = omega arith;
  rounds = chain_more writings c.args.n c.loop-begun._begun _ _ _ c.loop-begun-test.true c.loop-begun.invariant.rounds c.if-not-write_one.ensures.writes;
  loans = c.write_one.ensures.loans ∙ c.loop-begun.invariant.loans;
}

pub returns-then-not-write_one-clause-begun : goal.returns-then-not-write_one-clause-begun
returns-then-not-write_one-clause-begun g c = (chain_over writings c.args.n c.loop-begun._begun _ _ _ c.loop-begun.invariant.rounds c.if-not-write_one.ensures.writes).does

pub returns-then-not-write_one-clause-rest : goal.returns-then-not-write_one-clause-rest
returns-then-not-write_one-clause-rest g c = (chain_over writings c.args.n c.loop-begun._begun _ _ _ c.loop-begun.invariant.rounds c.if-not-write_one.ensures.writes).same

pub returns-clause-begun : goal.returns-clause-begun
returns-clause-begun g c = (chain_all writings c.args.n c.loop-begun._begun (g.T.StateCalls.shown c.args.state.now) (g.T.StateCalls.shown c.loop-begun.state) no_writing c.loop-begun-test.false c.loop-begun.invariant.rounds).does

pub returns-clause-rest : goal.returns-clause-rest
returns-clause-rest g c = c.loop-begun.invariant.rounds.same
