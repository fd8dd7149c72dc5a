use Rattle.std.proofs.Common.{◌≡◌, ◌≤◌, ◌<◌, ◌+◌, ◌-◌, ◌*◌, ◌^◌, ℕ, length, get_or, refl, sym, ap, subst, ◌∙◌, arith}
use Rattle.mm_text.specs.{digit_value}
use Rattle.mm_text.proofs.{sum_fits, sum_grows, Passed, passed_more}
use Rattle.mm_text.proofs.spans.run.Goals as goal

pub overflow_mul-sum : goal.overflow_mul-sum
overflow_mul-sum c =
    let l = c.loop-to in
    let room : l.sum * c.from.result ≤ 2 ^ 44 = sum_fits c.from.result l.sum (l.to - c.args.start) (omega arith) (omega (arith, l.invariant.few)) l.invariant.low in
    omega arith

pub overflow_add-sum : goal.overflow_add-sum
overflow_add-sum c =
    let l = c.loop-to in
    let room : l.sum * c.from.result ≤ 2 ^ 44 = sum_fits c.from.result l.sum (l.to - c.args.start) (omega arith) (omega (arith, l.invariant.few)) l.invariant.low in
    omega arith

pub loop-to-preserved : goal.loop-to-preserved
loop-to-preserved c =
    let l = c.loop-to in
    let line = c.args.line.now in
    let byte : ℕ = get_or line l.to 0 in
    let digit : digit_value byte ≡ c.digit-digit.result = sym c.digit-digit.ensures.value in
    let same : c.args.base ≡ c.from.result = omega arith in
    let last : c.digit-digit.result ≡ c.from-in-loop-to.result = omega arith in
    let low : digit_value byte < c.args.base = omega (arith, digit) in
    let place : l.to < length line = omega (arith, c.min-end.ensures) in
    let sum : l.sum * c.args.base + digit_value byte ≡ l.sum * c.from.result + c.from-in-loop-to.result =
    ap (λ (b : ℕ). l.sum * b + digit_value byte) same ∙ ap (λ (d : ℕ). l.sum * c.from.result + d) (digit ∙ last) in
    record {
      order = omega (arith, l.invariant.order);
      within = omega (arith, place);
      few = omega (arith, c.min-end.ensures);
      low =
          subst (λ (k : ℕ). l.sum * c.from.result + c.from-in-loop-to.result < 16 ^ k) (omega (arith, l.invariant.order))
          (sum_grows c.from.result l.sum c.from-in-loop-to.result (l.to - c.args.start) (omega arith) (omega arith) l.invariant.low);
      passed =
          subst (λ (n : ℕ). Passed c.args.base line c.args.start (l.to + 1) n) sum
          (passed_more c.args.base line c.args.start l.to l.sum byte c.requires.high l.invariant.order place refl low l.invariant.passed);
    }
