use Rattle.std.proofs.Common.{◌∙◌, ◌+◌, ap, true, refl, List, length, arith}
use Rattle.std.specs.Prelude.{Bool}
use Rattle.mm_world.specs.{change_range}
use Rattle.mm_bits.proofs.{puts_become}
use Rattle.mm_vad.proofs.{flags_become, length-flags}
use Rattle.mm_vad.proofs.bits.Bits.set.Goals as goal

pub put_bit-requires : goal.put_bit-requires
put_bit-requires c =
    let many = ap length c.self.view_is in
    omega (arith, many, length-flags c.self.inside.words.items c.self.inside.len, c.requires, c.self.invariant)

pub returns : goal.returns
returns c =
    flags_become true c.self.inside.words.items c.put_bit.new.words.items c.self.inside.len c.args.i 1 (c.args.i + 1) refl (puts_become true c.args.i _ _ c.put_bit.ensures.puts.bits)
    ∙ ap (λ (v : List Bool). change_range (λ _. true) c.args.i 1 v) c.self.view_is
