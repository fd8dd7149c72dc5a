use Rattle.std.proofs.Common.{◌≡◌, true, false, Some, None}
use Rattle.mm_move_rules.specs.{frame}
use Rattle.mm_store.specs.{ByCopy, FromFull, InShortage}
use Rattle.mm_line_moves.proofs.worked.same_page_again.Goals as goal

pub returns-clause-never : goal.returns-clause-never
returns-clause-never = λ c m. elim m.each.0 [
  | ByCopy e copied shows next ↦ (let bad : false ≡ true = copied in cc)
  | FromFull e none full old next ↦ (let bad : Some (frame 0) ≡ None = none in cc)
  | InShortage access short none victim ↦ (let bad : false ≡ true = short in cc)
]
