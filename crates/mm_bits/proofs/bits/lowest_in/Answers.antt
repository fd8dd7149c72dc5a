use Rattle.std.proofs.Common.{refl, arith}
use Rattle.std.proofs.lemmas.List.{get_or_read}
use Rattle.mm_bits.proofs.{filled_within, lowest_of}
use Rattle.mm_bits.proofs.bits.lowest_in.Goals as goal

pub index-requires : goal.index-requires
index-requires c = omega (arith, c.type_inv.words, filled_within c.args.words.now.items c.args.w c.requires.filled)

pub returns : goal.returns
returns c =
    let words = c.args.words.now.items in
    lowest_of words c.args.w c.index.result.now _ c.requires.filled
    (get_or_read words c.args.w c.index.result.now (filled_within words c.args.w c.requires.filled) c.index.ensures 0) (omega arith) refl
