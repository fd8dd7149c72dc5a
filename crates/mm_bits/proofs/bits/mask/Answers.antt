use Rattle.std.proofs.Common.{arith}
use Rattle.mm_bits.proofs.{mask_inside, mask_below, mask_above}
use Rattle.mm_bits.proofs.bits.mask.Goals as goal

pub returns-clause-inside : goal.returns-clause-inside
returns-clause-inside c = λ i low high. mask_inside c.args.low c.args.high i c.requires.within low high

pub returns-clause-below : goal.returns-clause-below
returns-clause-below c = λ i low. mask_below c.args.low c.args.high i (omega arith) c.requires.within low

pub returns-clause-above : goal.returns-clause-above
returns-clause-above c = λ i high. mask_above c.args.low c.args.high i (omega arith) c.requires.within high
