use Rattle.mm_bits.proofs.{puts_clear, puts_set}
use Rattle.mm_bits.proofs.bits.put_bit.Goals as goal

pub returns-then-on-clause-puts : goal.returns-then-on-clause-puts
returns-then-on-clause-puts c = puts_set c.args.on c.args.words.now.items c.args.i c.index-word.result.now c.requires c.index-word.ensures c.if-on.true

pub returns-clause-puts : goal.returns-clause-puts
returns-clause-puts c = puts_clear c.args.on c.args.words.now.items c.args.i c.index-word.result.now c.requires c.index-word.ensures c.if-on.false
