use Rattle.std.proofs.Common.{◌∙◌, sym, ap, arith}
use Rattle.mm_bits.specs.{have_bit, BitSetOf}
use Rattle.mm_bits.proofs.{none_past, read_bit}
use Rattle.mm_bits.proofs.sets.BitSet.has.Goals as goal

pub returns-then-w-len : goal.returns-then-w-len
returns-then-w-len c =
    let bits = c.self.inside.bits in
    sym (none_past bits.items c.args.i (omega (arith, c.if-w-len.true, c.len.ensures, bits.ok.0)) c.args.i (omega arith)) ∙ ap (λ (v : BitSetOf). have_bit v.words c.args.i) c.self.view_is

pub returns : goal.returns
returns c =
    let bits = c.self.inside.bits in
    read_bit bits.items c.args.i c.index.result.now (omega (arith, c.if-w-len.false, c.len.ensures, bits.ok.0)) c.index.ensures
    ∙ ap (λ (v : BitSetOf). have_bit v.words c.args.i) c.self.view_is
