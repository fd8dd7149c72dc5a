use Rattle.std.proofs.Common.{arith, length-set, ◌∙◌}
use Rattle.mm_script.proofs.{one_more}
use Rattle.mm_script.proofs.fields.Fields.numbers.Goals as goal

pub loop-range-preserved : goal.loop-range-preserved
loop-range-preserved c =
    let l = c.loop-range in
    let n = c.in_ok-numbers.field-0 in
    record {
      taken = l.invariant.taken ∙ one_more c.args.ranges.now l.numbers l.range-index l.count _ l.self c.number_in.new.self n l.invariant.count (omega arith) c.in_ok-numbers.ensures.value;
      places = length-set l.numbers l.count n ∙ l.invariant.places;
      count = omega arith;
      number = omega arith;
    }
