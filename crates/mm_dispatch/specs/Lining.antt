-- A line's piece of the log, over a store that pages.
-- Profile, "Logs of moves".
use Rattle.std.specs.Prelude.{◌≡◌, ℕ, List, ◌∷◌}
use Rattle.mm_types.specs.{Answer, Event, Move}
use Rattle.mm_types.specs.declared.moves.Move.TheVariants as move
use Rattle.mm_world.specs.World.{World}
use Rattle.mm_world.specs.Report.{Report}
use Rattle.mm_move_rules.specs.{waits_through}
use Rattle.mm_store.specs.Behind.{Behind}
use Rattle.mm_line_moves.specs.{kind_of_line, Does, ages_of_line, waits_of_line, with_line}

-- Its `at`, which numbers it, and after it the moves that the definitions ask of it, with ages and
-- waits (what `Line` of mm_line_moves says beside what follows from any piece that a store's calls
-- passed).
pub record Lined (w : World) (e : Event) (n : ℕ) (a : Answer) (v : World) (after : Report)
    (b : Behind) (piece : List Move) (c : Behind) : Type 0 where
  pub moves : List Move
  pub begins : piece ≡ move.At n (kind_of_line w e a) ∷ moves
  pub does : Does w e a v after (with_line (move.At n (kind_of_line w e a)) b) moves c
  pub ages : c.ages ≡ ages_of_line w e a b moves
  pub waits : c.waits ≡ waits_of_line w e a b (waits_through moves b.waits) c.life
