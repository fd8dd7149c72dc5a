-- How a check goes on, line by line.
-- Profile, "Logs of moves".
use Rattle.std.specs.Prelude.{◌≡◌, ◌⊎◌, List, [], ◌∷◌, ℕ, Option}
use Rattle.mm_types.specs.{Text, Move}
use Rattle.mm_move_rules.specs.{FrameLife, unstarted, after_move, Replays, counts_of_log, brought_in}
use Rattle.mm_log_check.specs.Marking.{AreMarked}
use Rattle.mm_log_check.specs.Counting.{TallyOf, Counts}
use Rattle.mm_log_check.specs.Reading.{Reading}
use Rattle.mm_log_check.specs.declared.readers.LogReader.{LogReader}

-- the move was made and counted
pub record Steps (m : Move) (l : FrameLife) (t : TallyOf) (l' : FrameLife) (t' : TallyOf) :
    Type 0 where
  pub after : l' ≡ after_move l m
  pub counts : Counts m t t'

-- memory was refused for it, or for its count where it was made
abbrev pub Halts : Move → FrameLife → FrameLife → Type 0
Halts m l l' = (l' ≡ l) ⊎ (l' ≡ after_move l m)

-- the frames that are brought in after some moves
abbrev pub brought_after : List ℕ → List Move → List ℕ
brought_after frames [] = frames
brought_after frames (m ∷ ms) = brought_after (brought_in frames m) ms

-- these moves were taken, made and counted
pub record MovesWereTaken (left left' : Option Text) (r : LogReader) (l : FrameLife) (t : TallyOf) :
    Type 0 where
  pub moves : List Move
  pub reading : Reading left left' r moves
  pub replays : Replays moves unstarted l
  pub counts : t.counts ≡ counts_of_log moves
  pub brought : AreMarked t.brought (brought_after [] moves)
