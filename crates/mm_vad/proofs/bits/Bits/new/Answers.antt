use Rattle.std.proofs.Common.{◌≡◌, ◌∙◌, ◌+◌, ◌/◌, ap, ℕ, List, replicate, rules}
use Rattle.mm_vad.specs.{word_flags}
use Rattle.mm_vad.proofs.{flags_zero}
use Rattle.mm_vad.proofs.bits.Bits.new.Goals as goal

pub returns : goal.returns
returns c =
    let made : c.in_ok-vec.field-0.items ≡ replicate ((c.args.n + 63) / 64) 0 = search rules in
    ap (λ (words : List ℕ). word_flags words c.args.n) made ∙ flags_zero ((c.args.n + 63) / 64) c.args.n
