-- The states that replays reach.
-- Profile, "Logs of moves".
use Rattle.std.specs.Prelude.{Bool, false, ◌&&◌, ◌==◌, List}
use Rattle.mm_types.specs.declared.moves.LineKind.TheVariants as kind
use Rattle.mm_types.specs.{Move}
use Rattle.mm_types.specs.declared.moves.Move.TheVariants as move
use Rattle.mm_move_rules.specs.{FrameLife, unstarted, is_valid_machine, Replays}

-- a list of moves, legal one after another, leads here from before the first line
pub record ReachedByMoves (l : FrameLife) : Type 0 where
  pub moves : List Move
  pub replays : Replays moves unstarted l

-- `at 1 machine ..` with numbers in range
abbrev pub is_first_line : Move → Bool
is_first_line (move.At n (kind.Machine frames slots depth blocks)) = (n == 1) &&
    is_valid_machine (record {
      frames = frames;
      slots = slots;
      depth = depth;
      blocks = blocks;
    })
is_first_line _ = false
