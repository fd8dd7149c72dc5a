use Rattle.std.proofs.Common.{◌<◌, length, ◌^◌, arith}
use Rattle.mm_working_sets.proofs.{joins_empty, joins_more, joins_all, lowest_in_set, none_in_set}
use Rattle.mm_working_sets.proofs.groups.join.Goals as goal

pub returns-then-len-eq0 : goal.returns-then-len-eq0
returns-then-len-eq0 c = joins_empty c.args.sets.now.items c.args.group (2 ^ 19) (omega (arith, c.if-len-eq0.true, c.len.ensures, c.args.sets.now.ok.0))

pub take-requires : goal.take-requires
take-requires c =
    let sets = c.loop-page.sets.items in
    let some : 0 < length c.args.sets.now.items = omega (arith, c.if-len-eq0.false, c.len.ensures, c.args.sets.now.ok.0) in
    let within : c.args.group < length sets = omega (arith, c.loop-page.invariant.joins.count, c.requires.turning, c.requires.whole some) in
    (lowest_in_set sets c.index.result.now c.args.group c.loop-page.from within c.index.ensures c.in-Some.page.0 c.in-Some.ensures.is).held

pub loop-page-preserved : goal.loop-page-preserved
loop-page-preserved c =
    let sets = c.loop-page.sets.items in
    let some : 0 < length c.args.sets.now.items = omega (arith, c.if-len-eq0.false, c.len.ensures, c.args.sets.now.ok.0) in
    let within : c.args.group < length sets = omega (arith, c.loop-page.invariant.joins.count, c.requires.turning, c.requires.whole some) in
    record {
      joins = joins_more c.args.sets.now.items sets c.args.group c.loop-page.from c.requires.turning c.loop-page.invariant.joins c.take.new.sets.items c.put.new.sets.items c.in-Some.page.0
          (lowest_in_set sets c.index.result.now c.args.group c.loop-page.from within c.index.ensures c.in-Some.page.0 c.in-Some.ensures.is) c.take.ensures c.put.ensures;
      low = omega (arith, c.in-Some.ensures.low);
    }

pub returns : goal.returns
returns c =
    let sets = c.loop-page.sets.items in
    let some : 0 < length c.args.sets.now.items = omega (arith, c.if-len-eq0.false, c.len.ensures, c.args.sets.now.ok.0) in
    let within : c.args.group < length sets = omega (arith, c.loop-page.invariant.joins.count, c.requires.turning, c.requires.whole some) in
    joins_all c.args.sets.now.items sets c.args.group c.loop-page.from c.requires.turning c.loop-page.invariant.joins (2 ^ 19)
    (none_in_set sets c.index.result.now c.args.group c.loop-page.from within c.index.ensures c.in_default.ensures.is)
