use Rattle.std.proofs.Common.{◌∙◌, ◌+◌, ap, refl, false, List, length, arith}
use Rattle.std.specs.Prelude.{Bool}
use Rattle.mm_world.specs.{change_range}
use Rattle.mm_vad.proofs.{flags_become, length-flags}
use Rattle.mm_vad.proofs.bits.Bits.clear.Goals as goal

pub put_bits-requires-clause-within : goal.put_bits-requires-clause-within
put_bits-requires-clause-within c =
    let many = ap length c.self.view_is in
    omega (arith, many, length-flags c.self.inside.words.items c.self.inside.len, c.requires, c.self.invariant)

pub put_bits-requires-clause-small : goal.put_bits-requires-clause-small
put_bits-requires-clause-small c =
    let many = ap length c.self.view_is in
    omega (arith, many, length-flags c.self.inside.words.items c.self.inside.len, c.requires)

pub returns : goal.returns
returns c =
    flags_become false c.self.inside.words.items c.put_bits.new.words.items c.self.inside.len c.args.first c.args.n (c.args.first + c.args.n) refl c.put_bits.ensures.put
    ∙ ap (λ (v : List Bool). change_range (λ _. false) c.args.first c.args.n v) c.self.view_is
