use Rattle.std.proofs.Common.{◌≡◌, ◌∷◌, ◌++◌, ℕ, ◌-◌, length, take, drop, sym, ap, ◌∙◌, arith}
use Rattle.mm_types.specs.{Text, decimal}
use Rattle.mm_log_check.proofs.{first_and_rest, front_zero, front_one, front_more}
use Rattle.mm_log_check.proofs.fronts.number.Goals as goal

pub returns-then-first-eq-ZERO : goal.returns-then-first-eq-ZERO
returns-then-first-eq-ZERO c =
    let text : Text = c.args.text.now in
    let rest : Text = take (length text - 1) (drop 1 text) in
    let zero : 48 ≡ c.from-first.result = omega arith in
    front_zero rest ∙ ap (λ (b : ℕ). b ∷ rest) zero ∙ sym (first_and_rest text c.from-first.result c.in-len1-up.len_at_least c.from-first.ensures)

pub loop-rest-init : goal.loop-rest-init
loop-rest-init c =
    let text : Text = c.args.text.now in
    let rest : Text = take (length text - 1) (drop 1 text) in
    record {
      front = front_one c.from-first.result rest (omega arith) (omega arith) ∙ sym (first_and_rest text c.from-first.result c.in-len1-up.len_at_least c.from-first.ensures);
      some = omega arith;
    }

pub loop-rest-preserved : goal.loop-rest-preserved
loop-rest-preserved c =
    let l = c.loop-rest in
    let left : Text = l.rest.now in
    let rest : Text = take (length left - 1) (drop 1 left) in
    record {
      front =
          front_more l.sum c.from-byte.result rest _ l.invariant.some (omega arith) (omega arith) (omega arith)
          (ap (λ t. decimal l.sum ++ t) (sym (first_and_rest left c.from-byte.result c.in-len1-up-rest.len_at_least c.from-byte.ensures)) ∙ l.invariant.front);
      some = omega (arith, l.invariant.some);
    }
