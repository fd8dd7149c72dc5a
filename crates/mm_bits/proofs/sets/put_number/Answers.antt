use Rattle.mm_bits.proofs.{summed_passed, summed_stayed}
use Rattle.mm_bits.proofs.sets.put_number.Goals as goal

pub returns-then-put_bit-clause-summed : goal.returns-then-put_bit-clause-summed
returns-then-put_bit-clause-summed c =
    let a = c.put_above.ensures in
    summed_passed c.args.on c.args.bits.now.items c.put_bit.new.words.items c.args.words.now.items c.args.tops.now.items c.args.i c.put_bit.result c.requires.summed c.put_bit.ensures.puts c.put_bit.ensures.kept
    c.put_above.new.words.items c.put_above.new.tops.items c.if-put_bit.true a.puts a.sums a.words a.tops

pub returns-else-put_bit-clause-summed : goal.returns-else-put_bit-clause-summed
returns-else-put_bit-clause-summed c =
    summed_stayed c.args.on c.args.bits.now.items c.put_bit.new.words.items c.args.words.now.items c.args.tops.now.items c.args.i c.put_bit.result c.requires.summed c.put_bit.ensures.puts c.put_bit.ensures.kept c.if-put_bit.false
