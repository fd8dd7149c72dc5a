use Rattle.std.proofs.Common.{◌∙◌, ◌+◌, ◌-◌, ◌/◌, ap, List, ℕ, get_or, vec_len, length, arith}
use Rattle.mm_bits.proofs.{extended, length-extended, maybe_extended, summed_more}
use Rattle.mm_bits.proofs.sets.BitSet.reserve.Goals as goal

pub invariant_of-self-2 : goal.invariant_of-self-2
invariant_of-self-2 c =
    let s = c.self.inside in
    let n = (c.args.end + 4095) / 4096 in
    let words = maybe_extended c.extend-2.result s.words.items c.extend-2.new.words.items (n - vec_len s.words) c.extend-2.ensures.ok c.extend-2.ensures.err in
    let longer = ap length words.1 ∙ length-extended s.words.items words.0 in
    let tops = c.in_ok-extend.ensures.ok in
    let higher = ap length tops ∙ length-extended s.tops.items ((n + 63) / 64 - vec_len s.tops) in
    let bits = ap length c.reserve.ensures.items in
    record {
      summed = summed_more s.bits.items _ s.words.items _ s.tops.items _ c.self.invariant.summed
          (λ w. ap (λ (ws : List ℕ). get_or ws w 0) c.reserve.ensures.items)
          (λ w. ap (λ (ws : List ℕ). get_or ws w 0) words.1 ∙ extended s.words.items words.0 w)
          (λ w. ap (λ (ws : List ℕ). get_or ws w 0) tops ∙ extended s.tops.items _ w)
          (omega (arith, bits, longer, c.self.invariant.summed.bits_fit)) (omega (arith, longer, words.2, higher, s.words.ok.0, s.tops.ok.0, c.if-n-len.false, c.len.ensures)) (omega (arith, higher, s.tops.ok.0, c.self.invariant.summed.small));
      room = omega (arith, longer, words.2, bits, c.in_ok-reserve.ensures.ok, c.in_ok-reserve.ensures.len, s.bits.ok.0, s.words.ok.0, c.len.ensures, c.len-2.ensures, c.if-n-len.false, c.self.invariant.summed.bits_fit);
    }
