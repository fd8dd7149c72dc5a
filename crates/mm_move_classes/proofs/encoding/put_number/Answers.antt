use Rattle.std.proofs.Common.{◌≡◌, ℕ, ◌++◌, ap, sym, ◌∙◌, arith}
use Rattle.mm_move_classes.specs.{digits_of}
use Rattle.mm_move_classes.proofs.{digits_none}
use Rattle.mm_move_classes.proofs.encoding.put_number.Goals as goal

pub returns-clause-text : goal.returns-clause-text
returns-clause-text c =
    let l = c.loop-places in
    let none : c.loop-places.places ≡ 0 = omega arith in
    sym (digits_none l.out l.rest) ∙ ap (λ (k : ℕ). l.out ++ digits_of k l.rest) (sym none) ∙ l.invariant.digits
