-- The moves of a line, one after another, and what is told of each where it is made.
use Rattle.std.specs.Prelude.{ℕ, Bool, true, false, List, [], ◌∷◌}
use Rattle.mm_types.specs.{Move, Place}
use Rattle.mm_types.specs.declared.moves.Move.TheVariants as move
use Rattle.mm_move_rules.specs.Life.{FrameLife}
use Rattle.mm_move_rules.specs.Effect.{after_move}
use Rattle.mm_move_rules.specs.Waits.{Waiting, waits_after, ages_after}

-- between two moves of a line
pub record Walk : Type 0 where
  pub life : FrameLife
  pub ages : Place → ℕ
  -- the frames whose write failed in the search that goes on
  pub tried : List ℕ

-- a search begins with the line, and anew after each `give` and `read`
abbrev pub tried_after : Move → List ℕ → List ℕ
tried_after (move.At n k) tried = []
tried_after (move.Give f k) tried = []
tried_after (move.Read f k) tried = []
tried_after (move.Lost f) tried = f.0 ∷ tried
tried_after _ tried = tried

abbrev pub walked : Walk → Move → Walk
walked w m = record {
  life = after_move w.life m;
  ages = ages_after m w.ages;
  tried = tried_after m w.tried;
}

abbrev pub walked_all : Walk → List Move → Walk
walked_all w [] = w
walked_all w (m ∷ ms) = walked_all (walked w m) ms

-- each of the moves is one that this allows: where it is made, and with those after it
module _ (P : Walk → Move → List Move → Type 0) where
  abbrev pub Through : Walk → List Move → Type 0
  Through w [] = Unit {0}
  Through w (m ∷ ms) = P w m ms × Through (walked w m) ms

abbrev pub waits_through : List Move → (ℕ → Waiting) → ℕ → Waiting
waits_through [] waits = waits
waits_through (m ∷ ms) waits = waits_through ms (waits_after m waits)

abbrev pub ages_through : List Move → (Place → ℕ) → Place → ℕ
ages_through [] ages = ages
ages_through (m ∷ ms) ages = ages_through ms (ages_after m ages)

-- ---- kinds of moves

abbrev pub is_read_move : Move → Bool
is_read_move (move.Read f k) = true
is_read_move _ = false

abbrev pub takes_frame : Move → Bool
takes_frame (move.Give f k) = true
takes_frame (move.Read f k) = true
takes_frame _ = false

abbrev pub is_wrote_move : Move → Bool
is_wrote_move (move.Wrote f) = true
is_wrote_move _ = false

abbrev pub is_lost_move : Move → Bool
is_lost_move (move.Lost f) = true
is_lost_move _ = false
