use Rattle.std.proofs.Common.{[], ◌∷◌, refl, arith}
use Rattle.mm_line_moves.proofs.worked.pages_made.Goals as goal

pub returns-clause-stack : goal.returns-clause-stack
returns-clause-stack = λ c. record {
  all = (refl, (refl, (refl, tt)));
  order = record { pages = 18 ∷ 19 ∷ []; last = 17 ∷ []; whole = refl; above = (omega arith, omega arith, (omega arith, omega arith, tt)); below = (omega arith, omega arith, tt) };
  lowest = (tt, (tt, (tt, tt)));
}
