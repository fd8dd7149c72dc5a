use Rattle.std.proofs.Common.{◌≡◌, ◌+◌, ◌%◌, ◌∙◌, arith, refl, length}
use Rattle.mm_pager.proofs.{blocks_none, blocks_more, blocks_lost, one_written}
use Rattle.mm_pager.proofs.making.write_blocks.Goals as goal

pub loop-i-init : goal.loop-i-init
loop-i-init g c = record {
  few = omega arith;
  written = blocks_none c.args.first.0 c.args.byte (g.T.StateCalls.shown c.args.state.now);
  loans = refl;
}

pub returns-then-not-write_block-clause-written : goal.returns-then-not-write_block-clause-written
returns-then-not-write_block-clause-written g c =
    let e = c.if-not-write_block.ensures in
    blocks_lost c.args.first.0 c.loop-i.i c.args.byte (g.T.StateCalls.shown c.args.state.now) (g.T.StateCalls.shown c.loop-i.state) (g.T.StateCalls.shown c.write_block.new.self) c.loop-i.invariant.written c.args.n
    (one_written (c.args.first.0 + c.loop-i.i) c.page_byte.result ((c.args.byte + c.loop-i.i) % 256) _ (g.T.StateCalls.shown c.loop-i.state) (g.T.StateCalls.shown c.write_block.new.self) c.page_byte.ensures e.called e.told e.written e.rest) c.loop-i-test.true

pub loop-i-preserved : goal.loop-i-preserved
loop-i-preserved g c =
    let e = c.if-not-write_block.ensures in
    let long : length (g.T.StateCalls.shown c.loop-i.state).blocks ≡ (g.T.StateCalls.shown c.args.state.now).life.machine.blocks = c.loop-i.invariant.written.long ∙ (g.met.T.StateCalls.holds c.args.state.now).blocks in
    record {
      few = omega (arith, c.loop-i-test.true);
      written = blocks_more c.args.first.0 c.loop-i.i c.args.byte (g.T.StateCalls.shown c.args.state.now) (g.T.StateCalls.shown c.loop-i.state) (g.T.StateCalls.shown c.write_block.new.self) c.loop-i.invariant.written
          (one_written (c.args.first.0 + c.loop-i.i) c.page_byte.result ((c.args.byte + c.loop-i.i) % 256) _ (g.T.StateCalls.shown c.loop-i.state) (g.T.StateCalls.shown c.write_block.new.self) c.page_byte.ensures e.called e.told e.written e.rest)
          (omega (arith, long, c.requires.room, c.loop-i-test.true));
      loans = c.write_block.ensures.loans ∙ c.loop-i.invariant.loans;
    }
