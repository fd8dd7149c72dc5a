use Rattle.std.proofs.Common.{ap, subst, List, length, arith}
use Rattle.std.specs.Prelude.{Bool}
use Rattle.mm_bits.specs.{IsLowestFrom, NoneWithin}
use Rattle.mm_vad.specs.{bit_flag}
use Rattle.mm_vad.proofs.{next_flagged, none_flagged, length-flags}
use Rattle.mm_vad.proofs.bits.Bits.next.Goals as goal

pub returns-in-Some-clause-found : goal.returns-in-Some-clause-found
returns-in-Some-clause-found c =
    let many = ap length c.self.view_is in
    subst (λ (v : List Bool). IsLowestFrom (bit_flag v) c.args.first c.in-Some.i) c.self.view_is
    (next_flagged c.self.inside.words.items c.self.inside.len c.args.first c.in-Some.i
    (omega (arith, many, length-flags c.self.inside.words.items c.self.inside.len, c.requires, c.in-Some.ensures.within)) c.in-Some.ensures.found)

pub returns-in-None-clause-none : goal.returns-in-None-clause-none
returns-in-None-clause-none c =
    let many = ap length c.self.view_is in
    subst (λ (v : List Bool). NoneWithin (bit_flag v) c.args.first c.args.end) c.self.view_is
    (none_flagged c.self.inside.words.items c.self.inside.len c.args.first c.args.end
    (omega (arith, many, length-flags c.self.inside.words.items c.self.inside.len, c.requires)) c.in-None.ensures.none)
