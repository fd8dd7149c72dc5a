use Rattle.std.proofs.Common.{sym, ◌∙◌, arith}
use Rattle.mm_bits.proofs.{bit_within, found_above, none_above}
use Rattle.mm_bits.proofs.sets.next_word.Goals as goal

pub lowest_in-requires-clause-filled : goal.lowest_in-requires-clause-filled
lowest_in-requires-clause-filled c = sym (c.requires.sums c.in-Some-next_top.top) ∙ c.in-Some-next_top.ensures.held

pub lowest_in-requires-clause-small : goal.lowest_in-requires-clause-small
lowest_in-requires-clause-small c = omega (arith, c.requires.small, bit_within c.args.tops.now.items c.in-Some-next_top.top c.in-Some-next_top.ensures.held)

pub returns-in-Some-next_top : goal.returns-in-Some-next_top
returns-in-Some-next_top c =
    found_above c.args.words.now.items c.args.tops.now.items c.args.from c.requires.sums c.in_default.ensures c.in-Some-next_top.top c.lowest_in.result c.in-Some-next_top.ensures c.lowest_in.ensures

pub returns-in-None : goal.returns-in-None
returns-in-None c = none_above c.args.words.now.items c.args.tops.now.items c.args.from c.requires.sums c.in_default.ensures c.in-None.ensures
