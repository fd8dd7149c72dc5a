use Rattle.std.proofs.Common.{arith, ℕ, ap, sym, ◌∙◌}
use Rattle.std.specs.Prelude.{◌==◌}
use Rattle.mm_bits.proofs.{cleared_inside, cleared_outside, or_inside, or_outside}
use Rattle.mm_bits.proofs.bits.put.Goals as goal

pub returns-then-on : goal.returns-then-on
returns-then-on c = record {
  inside = λ i low high. ap (λ (n : ℕ). n == 1) (or_inside c.args.word c.mask-bits.result i (c.mask-bits.ensures.inside i low high)) ∙ sym c.if-on.true;
  below = λ i low. or_outside c.args.word c.mask-bits.result i (c.mask-bits.ensures.below i low);
  above = λ i high fits. or_outside c.args.word c.mask-bits.result i (c.mask-bits.ensures.above i high);
}

pub returns-else-on : goal.returns-else-on
returns-else-on c = record {
  inside = λ i low high. ap (λ (n : ℕ). n == 1) (cleared_inside c.args.word c.mask-bits.result i (omega arith) (omega arith) (c.mask-bits.ensures.inside i low high)) ∙ sym c.if-on.false;
  below = λ i low. cleared_outside c.args.word c.mask-bits.result i (omega arith) (omega arith) (c.mask-bits.ensures.below i low);
  above = λ i high fits. cleared_outside c.args.word c.mask-bits.result i (omega arith) fits (c.mask-bits.ensures.above i high);
}
