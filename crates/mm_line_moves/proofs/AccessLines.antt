-- A plain access is a line: its `at`, and then the moves of one call of the store.
use Rattle.std.proofs.Common.{◌≡◌, List, [], subst}
use Rattle.mm_types.specs.{Move}
use Rattle.mm_move_rules.specs.{after_move, Walk, Through}
use Rattle.mm_store.specs.Behind.{Behind}
use Rattle.mm_store.specs.{Aim, AccessMove, AccessMoves, walk_from}
use Rattle.mm_line_moves.specs.{with_line}

-- where a walk begins, once the line has
walks-from : (m : Move) (b y : Behind) → y.life ≡ after_move b.life m → y.ages ≡ b.ages → walk_from y ≡ walk_from (with_line m b)
walks-from m b y l a = λ i. record { life = l i; ages = a i; tried = [] }

-- the moves of an access are those from there
pub moves_from : (aim : Aim) (m : Move) (b y : Behind) (moves : List Move) → y.life ≡ after_move b.life m → y.ages ≡ b.ages → AccessMoves aim y moves → AccessMoves aim (with_line m b) moves
moves_from aim m b y moves l a p = record {
  each = subst (λ (w : Walk). Through (AccessMove aim) w moves) (walks-from m b y l a) p.each;
  one_read = p.one_read;
  few_writes = p.few_writes;
}
