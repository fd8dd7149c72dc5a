use Rattle.std.proofs.Common.{◌∙◌}
use Rattle.mm_bits.proofs.{no_bits, no_rows}
use Rattle.mm_bits.proofs.sets.BitSet.new.Goals as goal

pub invariant_of-set : goal.invariant_of-set
invariant_of-set c = no_rows _ _ _ _ c.new.ensures.items c.new-2.ensures.items c.new-3.ensures.items

pub returns-clause-empty : goal.returns-clause-empty
returns-clause-empty c = no_bits c.reserve.new.self.words (c.reserve.ensures.same ∙ c.new.ensures.items)
