use Rattle.std.proofs.Common.{◌≡◌, Some}
use Rattle.mm_move_rules.specs.{private}
use Rattle.mm_line_moves.specs.{shared}
use Rattle.mm_line_moves.proofs.worked.shared_page_mapped_again.Goals as goal

pub returns-clause-never : goal.returns-clause-never
returns-clause-never = λ c m. let bad : Some (shared 0 0) ≡ Some (private 1 16) = m.each.1.1.1.1.0.1 in cc
