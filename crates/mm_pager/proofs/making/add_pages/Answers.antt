use Rattle.std.proofs.Common.{◌∙◌, ap, arith, refl}
use Rattle.mm_state_calls.specs.{StateOf}
use Rattle.mm_pager.proofs.{pages_none, pages_more}
use Rattle.mm_pager.proofs.making.add_pages.Goals as goal

pub loop-i-init : goal.loop-i-init
loop-i-init g c = record {
  few = omega arith;
  added = pages_none c.args.area.0 c.args.first.0 (g.T.StateCalls.shown c.args.state.now);
  loans = refl;
}

pub add_block-requires-clause-home : goal.add_block-requires-clause-home
add_block-requires-clause-home g c = (c.args.n, (ap (λ (x : StateOf). x.areas c.args.area.0) c.loop-i.invariant.added.same ∙ c.requires.open, c.loop-i-test.true))

pub loop-i-preserved : goal.loop-i-preserved
loop-i-preserved g c = record {
  few = omega (arith, c.loop-i-test.true);
  added = pages_more c.args.area c.args.first.0 c.loop-i.i (g.T.StateCalls.shown c.args.state.now) (g.T.StateCalls.shown c.loop-i.state) (g.T.StateCalls.shown c.add_block.new.self) c.loop-i.invariant.added c.add_block.ensures.made c.add_block.ensures.rest;
  loans = c.add_block.ensures.loans ∙ c.loop-i.invariant.loans;
}
