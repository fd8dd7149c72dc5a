use Rattle.std.proofs.Common.{◌≡◌, ◌+◌, Some, ap, sym, ◌∙◌, arith}
use Rattle.std.specs.Prelude.{is_ok, slice_get}
use Rattle.std.proofs.lemmas.Option.{get_or_from_slice_get}
use Rattle.mm_types.proofs.{on_err}
use Rattle.mm_devices.specs.{device_with}
use Rattle.mm_devices.proofs.{all_served_later, failed_later}
use Rattle.mm_unpaged.specs.{FilePage}
use Rattle.mm_unpaged.proofs.{stored_more, wrote_one, wrote_then, none_failed}
use Rattle.mm_unpaged.proofs.files.write_file.Goals as goal

pub returns-in_err-write_block-clause-wrote : goal.returns-in_err-write_block-clause-wrote
returns-in_err-write_block-clause-wrote g c =
    wrote_then _ _ _ _ _ _ c.loop-i.invariant.wrote
    (wrote_one _ _ _ _ (c.args.first + c.loop-i.i) (is_ok c.write_block.result) _ c.write_block.ensures.serves c.write_block.ensures.writes)

pub returns-in_err-write_block-clause-blamed : goal.returns-in_err-write_block-clause-blamed
returns-in_err-write_block-clause-blamed g c =
    let d = g.F.Inject in
    let w = c.loop-i.invariant.wrote in
    let old = device_with (d.log c.args.device.now) (d.named c.args.device.now) (d.faults c.args.device.now) in
    let mid = device_with (d.log c.loop-i.device) (d.named c.loop-i.device) (d.faults c.loop-i.device) in
    let new = device_with (d.log c.write_block.new.device) (d.named c.write_block.new.device) (d.faults c.write_block.new.device) in
    on_err c.from_residual.result (failed_later old mid new (all_served_later w.calls old mid w.served) c.in_err-write_block.ensures.blamed)

pub loop-i-preserved : goal.loop-i-preserved
loop-i-preserved g c =
    let e = c.write_block.ensures in
    let before = c.loop-i.invariant in
    let is : (p : FilePage) → slice_get c.args.made.now.items c.loop-i.i ≡ Some p → p.page ≡ c.index.result.now.page =
    λ p at. sym (ap (λ (x : FilePage). x.page) (c.index.ensures ∙ get_or_from_slice_get c.args.made.now.items c.loop-i.i p _ at)) in
    record {
      stored = stored_more c.args.first c.loop-i.i c.args.made.now.items _ _ _ c.index.result.now.page before.stored c.in_ok-write_block.ensures.ok (omega (arith, before.stored.long, c.requires.inside, c.loop-i-test.true)) is;
      wrote = wrote_then _ _ _ _ _ _ before.wrote (wrote_one _ _ _ _ (c.args.first + c.loop-i.i) (is_ok c.write_block.result) _ e.serves e.writes);
      quiet = none_failed _ _ (is_ok c.write_block.result) (ap is_ok c.in_ok-write_block.was) e.writes ∙ before.quiet;
      same_loans = e.loans ∙ before.same_loans;
    }
