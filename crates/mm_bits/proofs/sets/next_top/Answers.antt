use Rattle.std.proofs.Common.{◌*◌, arith}
use Rattle.std.proofs.lemmas.List.{get_or_read}
use Rattle.std.proofs.Common.{sym, ◌∙◌}
use Rattle.mm_bits.proofs.{filled_read_some, lowest_behind, none_behind, none_in_zero, none_to_end}
use Rattle.mm_bits.proofs.sets.next_top.Goals as goal

pub loop-w-init : goal.loop-w-init
loop-w-init c = record {
  above = omega arith;
  none = none_to_end _ c.args.from c.in_default.ensures;
}

pub lowest_in-requires-clause-filled : goal.lowest_in-requires-clause-filled
lowest_in-requires-clause-filled c =
    let tops = c.args.tops.now in
    filled_read_some tops.items c.loop-w.w c.index.result.now (omega (arith, c.loop-w-test.true, c.len.ensures, tops.ok.0)) c.index.ensures c.if-index-ne0.true

pub returns-then-index-ne0 : goal.returns-then-index-ne0
returns-then-index-ne0 c = lowest_behind _ c.args.from (64 * c.loop-w.w) c.lowest_in.result (omega (arith, c.loop-w.invariant.above)) c.loop-w.invariant.none c.lowest_in.ensures

pub loop-w-preserved : goal.loop-w-preserved
loop-w-preserved c =
    let tops = c.args.tops.now in
    record {
      above = omega (arith, c.loop-w.invariant.above);
      none =
          none_in_zero tops.items c.args.from c.loop-w.w
          (sym (get_or_read tops.items c.loop-w.w c.index.result.now (omega (arith, c.loop-w-test.true, c.len.ensures, tops.ok.0)) c.index.ensures 0) ∙ c.if-index-ne0.false) c.loop-w.invariant.none;
    }

pub returns : goal.returns
returns c = none_behind c.args.tops.now.items c.args.from (64 * c.loop-w.w) (omega (arith, c.loop-w-test.false, c.args.tops.now.ok.0)) c.loop-w.invariant.none
