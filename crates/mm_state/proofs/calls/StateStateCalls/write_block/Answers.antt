use Rattle.std.proofs.Common.{sym, subst, arith, replicate}
use Rattle.std.specs.Prelude.{slice_set}
use Rattle.std.proofs.lemmas.List.{length-replicate}
use Rattle.mm_types.specs.declared.frames.Backing.TheVariants as backing
use Rattle.mm_state.specs.{IsTallied}
use Rattle.mm_state.proofs.{block_written, block_carries, rest_block, tallied_write, block_whole}
use Rattle.mm_state.proofs.calls.StateStateCalls.write_block.Goals as goal

pub write_device-ok-requires : goal.write_device-ok-requires
write_device-ok-requires g c = let s = c.args.self.now in let size = s.located.file_room in let low = c.requires.there in omega (arith, size, low)

pub returns-clause-written : goal.returns-clause-written
returns-clause-written g c = block_written c.write_device-ok.result _ _ (λ blocks. slice_set blocks c.args.b.0 (replicate 4096 c.args.byte)) c.write_device-ok.ensures.ok c.write_device-ok.ensures.err

pub invariant_of-self : goal.invariant_of-self
invariant_of-self g c =
    let s = c.args.self.now in
    let ok = c.write_device-ok.result in
    let page = replicate 4096 c.args.byte in
    let after = c.write_device-ok.ensures in
    record {
      located = (block_carries ok _ s.parts.kept.reached _ _ _ s.located c.args.b.0 page c.requires.new _ after.ok after.err).located;
      tallied = subst IsTallied (sym c.wrote.ensures) (tallied_write s.told ok (backing.Block c.args.b) s.tallied);
      slots_whole = s.slots_whole;
      blocks_whole = block_whole ok c.args.b.0 page (length-replicate 4096 c.args.byte) _ _ (block_written ok _ _ (λ blocks. slice_set blocks c.args.b.0 page) after.ok after.err) s.blocks_whole;
    }

pub returns-clause-rest : goal.returns-clause-rest
returns-clause-rest g c =
    let s = c.args.self.now in
    let after = c.write_device-ok.ensures in
    rest_block _ _ _ _ _ _ _ _ (block_carries c.write_device-ok.result _ s.parts.kept.reached _ _ _ s.located c.args.b.0 (replicate 4096 c.args.byte) c.requires.new _ after.ok after.err).bytes
