use Rattle.mm_bits.proofs.{lowest_behind}
use Rattle.mm_bits.proofs.bits.next_bit.Goals as goal

pub returns-then-next-end-clause-found : goal.returns-then-next-end-clause-found
returns-then-next-end-clause-found c = lowest_behind _ c.args.first c.loop-at.at c.in-Some.next c.loop-at.invariant.from c.loop-at.invariant.none c.in-Some.ensures
