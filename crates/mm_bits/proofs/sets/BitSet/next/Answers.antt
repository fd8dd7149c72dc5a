use Rattle.std.proofs.Common.{◌∙◌, ◌<◌, sym, subst, arith}
use Rattle.mm_bits.specs.{have_bit, BitSetOf, IsLowestFrom, NoneFrom}
use Rattle.mm_bits.proofs.{bit_within, found_above, none_above, number_low, room_fits}
use Rattle.mm_bits.proofs.sets.BitSet.next.Goals as goal

pub overflow_cast-result : goal.overflow_cast-result
overflow_cast-result c = omega (arith, room_fits _ _ _ _ c.self.invariant, number_low _ c.self.inside.bits.items c.self.inside.words.items c.self.inside.tops.items c.self.invariant c.in-Some.i c.in-Some.ensures.held)

pub returns-in-Some-clause-is : goal.returns-in-Some-clause-is
returns-in-Some-clause-is c = subst (λ (v : BitSetOf). IsLowestFrom (have_bit v.words) c.args.from c.in-Some.i) c.self.view_is c.in-Some.ensures

pub returns-in-Some-clause-low : goal.returns-in-Some-clause-low
returns-in-Some-clause-low c =
    subst (λ (v : BitSetOf). c.in-Some.i < v.room) c.self.view_is (number_low _ c.self.inside.bits.items c.self.inside.words.items c.self.inside.tops.items c.self.invariant c.in-Some.i c.in-Some.ensures.held)

pub lowest_in-requires-clause-filled : goal.lowest_in-requires-clause-filled
lowest_in-requires-clause-filled c = sym (c.self.invariant.summed.words_are c.in-Some-next_word.word) ∙ c.in-Some-next_word.ensures.held

pub lowest_in-requires-clause-small : goal.lowest_in-requires-clause-small
lowest_in-requires-clause-small c = omega (arith, room_fits _ _ _ _ c.self.invariant, bit_within c.self.inside.words.items c.in-Some-next_word.word c.in-Some-next_word.ensures.held)

pub overflow_cast-result-in-Some-next_word : goal.overflow_cast-result-in-Some-next_word
overflow_cast-result-in-Some-next_word c =
    omega (arith, room_fits _ _ _ _ c.self.invariant, number_low _ c.self.inside.bits.items c.self.inside.words.items c.self.inside.tops.items c.self.invariant c.lowest_in.result c.lowest_in.ensures.held)

pub returns-in-Some-next_word-clause-is : goal.returns-in-Some-next_word-clause-is
returns-in-Some-next_word-clause-is c =
    subst (λ (v : BitSetOf). IsLowestFrom (have_bit v.words) c.args.from c.lowest_in.result) c.self.view_is
    (found_above c.self.inside.bits.items c.self.inside.words.items c.args.from c.self.invariant.summed.words_are c.in_default.ensures c.in-Some-next_word.word c.lowest_in.result c.in-Some-next_word.ensures c.lowest_in.ensures)

pub returns-in-Some-next_word-clause-low : goal.returns-in-Some-next_word-clause-low
returns-in-Some-next_word-clause-low c =
    subst (λ (v : BitSetOf). c.lowest_in.result < v.room) c.self.view_is
    (number_low _ c.self.inside.bits.items c.self.inside.words.items c.self.inside.tops.items c.self.invariant c.lowest_in.result c.lowest_in.ensures.held)

pub returns-in-None-clause-is : goal.returns-in-None-clause-is
returns-in-None-clause-is c =
    subst (λ (v : BitSetOf). NoneFrom (have_bit v.words) c.args.from) c.self.view_is
    (none_above c.self.inside.bits.items c.self.inside.words.items c.args.from c.self.invariant.summed.words_are c.in_default.ensures c.in-None.ensures)
