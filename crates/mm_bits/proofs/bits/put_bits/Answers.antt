use Rattle.std.proofs.Common.{◌-◌, ◌*◌, ◌/◌, ◌%◌, ◌<◌, length, ◌∙◌, arith, length-set, get_or-set_other}
use Rattle.mm_bits.proofs.{word_becomes, becomes_more}
use Rattle.mm_bits.proofs.bits.put_bits.Goals as goal

pub loop-at-preserved : goal.loop-at-preserved
loop-at-preserved c =
    let words = c.loop-at.words.items in
    let at = c.loop-at.at in
    let stop = c.min-stop.result in
    let inside : at / 64 < length words = omega (arith, c.loop-at.invariant.kept, c.requires.within) in
    let further : at < stop = omega (arith, c.min-stop.ensures) in
    let step =
    word_becomes c.args.on words (at / 64) c.index.result.now c.put.result (at % 64) (stop - at / 64 * 64) at stop inside c.index.ensures c.put.ensures
    (omega arith) (omega arith) (omega (arith, c.min-stop.ensures)) in
    record {
      from = omega (arith, c.loop-at.invariant.from);
      to = omega (arith, c.min-stop.ensures);
      kept = length-set words (at / 64) c.put.result ∙ c.loop-at.invariant.kept;
      capacity = c.loop-at.invariant.capacity;
      put = becomes_more c.args.on _ _ _ c.args.first at stop c.loop-at.invariant.from (omega arith) c.loop-at.invariant.put step;
      rest = λ w h. get_or-set_other words (at / 64) w c.put.result 0 (λ e. omega (arith, e)) ∙ c.loop-at.invariant.rest w h;
    }
