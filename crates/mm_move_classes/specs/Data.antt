-- The data of a log, for a page that shows it: a line for each line of the log, its moves with
-- their classes, and the counts of the state after each line 64, 128, .. and after the last.
use Rattle.std.specs.Prelude.{ℕ, ◌%◌, Bool, not, ◌&&◌, ◌==◌, nat_le, if◌then◌else◌, List, [], ◌∷◌}
use Rattle.std.specs.Prelude.{◌++◌, Option, Some, None}
use Rattle.mm_types.specs.{Text, Move}
use Rattle.mm_types.specs.declared.moves.Move.TheVariants as move
use Rattle.mm_move_rules.specs.{FrameLife, unstarted, counts_of, after_move, AreMoves, Replays}
use Rattle.mm_move_classes.specs.Marks.{MarksOf, no_marks, marks_after}
use Rattle.mm_move_classes.specs.Classes.{class_of, next_of}
use Rattle.mm_move_classes.specs.Encoding.{move_data, mark_data}

abbrev pub is_marked : ℕ → Bool
is_marked line = nat_le 1 line && (line % 64 == 0)

-- the mark of a line stands before the next begins
abbrev pub mark_before : FrameLife → Move → Text
mark_before l (move.At n k) = if is_marked l.line then mark_data (counts_of l) else []
mark_before l _ = []

-- and after the last line; a log of no line has none
abbrev pub last_mark : FrameLife → Text
last_mark l = if nat_le 1 l.line then mark_data (counts_of l) else []

-- the data of the moves that come, in this state, with these marks, after this move
abbrev pub data_from : FrameLife → MarksOf → Option Move → List Move → Text
data_from l v before [] = last_mark l ++ 10 ∷ []
data_from l v before (m ∷ ms) =
    mark_before l m
    ++ (move_data (class_of l v before m (next_of ms)) m
    ++ data_from (after_move l m) (marks_after v m) (Some m) ms)

abbrev pub log_data : List Move → Text
log_data moves = data_from unstarted no_marks None moves

-- neither `<` nor `&`: a byte that HTML takes as it stands
abbrev pub is_plain_in_html : ℕ → Bool
is_plain_in_html byte = not (byte == 0x3C) && not (byte == 0x26)

-- moves with numbers in range that replay from before the first line
pub record IsLog (moves : List Move) : Type 0 where
  pub in_range : AreMoves moves
  pub end : FrameLife
  pub replays : Replays moves unstarted end
