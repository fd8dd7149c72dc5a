use Rattle.std.proofs.Common.{◌≡◌, true, false, refl}
use Rattle.mm_move_rules.specs.{frame}
use Rattle.mm_line_moves.proofs.worked.write_left_unsoiled.Goals as goal

pub returns-clause-never : goal.returns-clause-never
returns-clause-never = λ c after m. let bad : false ≡ true = ((m.served refl).soiled refl (frame 0) refl).again refl in cc
