use Rattle.std.proofs.Common.{◌∙◌, ap}
use Rattle.mm_bits.specs.{have_bit, BitSetOf}
use Rattle.mm_bits.proofs.{bit_within}
use Rattle.mm_bits.proofs.sets.BitSet.remove.Goals as goal

pub put_number-requires-clause-within : goal.put_number-requires-clause-within
put_number-requires-clause-within c = bit_within c.self.inside.bits.items c.args.i (ap (λ (v : BitSetOf). have_bit v.words c.args.i) c.self.view_is ∙ c.requires)
