use Rattle.std.proofs.Common.{◌∙◌, ap, refl, true, List, ℕ, get_or, arith}
use Rattle.mm_bits.specs.{have_bit, BitSetOf}
use Rattle.mm_bits.proofs.{extended, put_same, same_bits, summed_more}
use Rattle.mm_bits.proofs.sets.BitSet.insert.Goals as goal

pub put_number-requires-clause-summed : goal.put_number-requires-clause-summed
put_number-requires-clause-summed c =
    let s = c.self.inside in
    summed_more s.bits.items c.reach.new.words.items s.words.items s.words.items s.tops.items s.tops.items c.self.invariant.summed
    (λ w. ap (λ (ws : List ℕ). get_or ws w 0) c.reach.ensures.items ∙ extended s.bits.items _ w) (λ w. refl) (λ w. refl)
    (omega (arith, c.reach.ensures.few, c.len.ensures, s.words.ok.0)) c.self.invariant.summed.words_fit c.self.invariant.summed.small

pub returns-clause-puts : goal.returns-clause-puts
returns-clause-puts c = λ k.
    let bits = c.self.inside.bits.items in
    let reached = c.reach.new.words.items in
    c.put_number.ensures.puts k
    ∙ put_same true c.args.i k (have_bit reached) (have_bit c.args.self.now.words)
    (same_bits bits reached (λ w. ap (λ (ws : List ℕ). get_or ws w 0) c.reach.ensures.items ∙ extended bits _ w) k ∙ ap (λ (v : BitSetOf). have_bit v.words k) c.self.view_is)
