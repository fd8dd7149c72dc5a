use Rattle.std.proofs.Common.{◌≡◌, true, false, refl}
use Rattle.mm_types.specs.declared.answers.Why.TheVariants as why
use Rattle.mm_line_moves.proofs.worked.frame_at_hand.Goals as goal

pub returns : goal.returns
returns = λ c after m. let bad : false ≡ true = m.held_up why.Frame refl in cc
