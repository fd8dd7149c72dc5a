use Rattle.std.proofs.Common.{◌/◌, refl, arith}
use Rattle.std.proofs.lemmas.List.{get_or_read}
use Rattle.mm_bits.proofs.{found_in_word, none_in_word, none_until}
use Rattle.mm_bits.proofs.bits.next_in_word.Goals as goal

pub returns-then-i-len : goal.returns-then-i-len
returns-then-i-len c = none_until c.args.words.now.items c.args.from (omega (arith, c.if-i-len.true, c.len.ensures))

pub returns-then-rest-eq0 : goal.returns-then-rest-eq0
returns-then-rest-eq0 c =
    let words = c.args.words.now.items in
    none_in_word words c.args.from c.index.result.now
    (get_or_read words (c.args.from / 64) c.index.result.now (omega (arith, c.if-i-len.false, c.len.ensures)) c.index.ensures 0) c.if-rest-eq0.true

pub returns-else-rest-eq0 : goal.returns-else-rest-eq0
returns-else-rest-eq0 c =
    let words = c.args.words.now.items in
    found_in_word words c.args.from c.index.result.now
    (get_or_read words (c.args.from / 64) c.index.result.now (omega (arith, c.if-i-len.false, c.len.ensures)) c.index.ensures 0)
    (omega arith) c.if-rest-eq0.false _ refl
