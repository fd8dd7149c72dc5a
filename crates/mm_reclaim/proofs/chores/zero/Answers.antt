use Rattle.std.proofs.Common.{◌∙◌, refl, arith}
use Rattle.mm_move_rules.specs.{clearings}
use Rattle.mm_reclaim.proofs.{chain_none, chain_more, chain_over, chain_all}
use Rattle.mm_reclaim.proofs.chores.zero.Goals as goal

pub loop-cleared-init : goal.loop-cleared-init
loop-cleared-init g c = record { few = omega arith; rounds = chain_none clearings c.args.n (g.T.StateCalls.shown c.args.state.now); loans = refl }

pub clear_one-requires : goal.clear_one-requires
clear_one-requires g c = record { kind = c.loop-cleared.invariant.rounds.kind ∙ c.requires.kind }

pub loop-cleared-preserved : goal.loop-cleared-preserved
loop-cleared-preserved g c = record {
  few = omega arith;
  rounds = chain_more clearings c.args.n c.loop-cleared._cleared _ _ _ c.loop-cleared-test.true c.loop-cleared.invariant.rounds c.if-not-clear_one.ensures.clears;
  loans = c.clear_one.ensures.loans ∙ c.loop-cleared.invariant.loans;
}

pub returns-then-not-clear_one-clause-cleared : goal.returns-then-not-clear_one-clause-cleared
returns-then-not-clear_one-clause-cleared g c = (chain_over clearings c.args.n c.loop-cleared._cleared _ _ _ c.loop-cleared.invariant.rounds c.if-not-clear_one.ensures.clears).does

pub returns-then-not-clear_one-clause-rest : goal.returns-then-not-clear_one-clause-rest
returns-then-not-clear_one-clause-rest g c = (chain_over clearings c.args.n c.loop-cleared._cleared _ _ _ c.loop-cleared.invariant.rounds c.if-not-clear_one.ensures.clears).same

pub returns-clause-cleared : goal.returns-clause-cleared
returns-clause-cleared g c = (chain_all clearings c.args.n c.loop-cleared._cleared (g.T.StateCalls.shown c.args.state.now) (g.T.StateCalls.shown c.loop-cleared.state) (λ l. refl) c.loop-cleared-test.false c.loop-cleared.invariant.rounds).does

pub returns-clause-rest : goal.returns-clause-rest
returns-clause-rest g c = c.loop-cleared.invariant.rounds.same
