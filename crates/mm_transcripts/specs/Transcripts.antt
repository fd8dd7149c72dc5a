-- The transcript of a log.
-- Profile, "What a log shows".
use Rattle.std.specs.Prelude.{ℕ, Bool, ◌&&◌, if◌then◌else◌, is_some, List, [], ◌∷◌, ◌++◌, Option, Some}
use Rattle.std.specs.Prelude.{None}
use Rattle.mm_types.specs.{Text, Move}
use Rattle.mm_types.specs.declared.moves.Move.TheVariants as move
use Rattle.mm_move_rules.specs.{FrameLife, unstarted, after_move}
use Rattle.mm_move_classes.specs.{MarksOf, no_marks, marks_after, class_of, next_of}
use Rattle.mm_sentences.specs.{facts_of}
use Rattle.mm_transcripts.specs.Ages.{AgesOf, no_ages_known, ages_after_move as ages_moved}
use Rattle.mm_transcripts.specs.Lines.{after_line}
use Rattle.mm_transcripts.specs.Reasons.{reason_at}
use Rattle.mm_transcripts.specs.declared.reasons.Reason.{Reason}
use Rattle.mm_log_walk.specs.{Beside, line_numbered}
use Rattle.mm_transcripts.specs.Folds.{first_then}
use Rattle.mm_transcripts.specs.Ends.{ending_text}
use Rattle.mm_transcripts.specs.Rows.{row_unless_folded}
use Rattle.mm_transcripts.specs.Writers.{unwritten_before, unwritten_end, writes_left}

-- ages are known where the script and its answers are named
abbrev pub has_ages : Beside → Bool
has_ages b = is_some b.script && is_some b.answers

abbrev pub ages_by : Beside → Move → AgesOf → AgesOf
ages_by b (move.At n k) a = after_line (line_numbered b.script n) (line_numbered b.answers n) a
ages_by b m a = ages_moved m a

abbrev pub ages_then : Beside → Move → AgesOf → AgesOf
ages_then b m a = if has_ages b then ages_by b m a else a

abbrev pub reason_then : Beside → AgesOf → FrameLife → Move → Option Reason
reason_then b a l m = if has_ages b then reason_at a l m else None

-- the rows of the moves that come, in this state, with these marks and ages, where the line may
-- begin so many write-outs yet, after this move; the rows of the moves from `first` on are one with
-- that of the first of them
abbrev pub transcript_rows_from : Beside → Bool → FrameLife → MarksOf → AgesOf → ℕ → Option Move
    → Option Move
    → List Move → Text
transcript_rows_from b whole l v a w before first [] = unwritten_end whole w l
    ++ ending_text b whole l.line
transcript_rows_from b whole l v a w before first (m ∷ ms) =
    let c = class_of l v before m (next_of ms) in
    unwritten_before w l m
    ++ (row_unless_folded b first (next_of ms) m c (facts_of l m) (reason_then b a l m)
    (after_move l m)
    ++ transcript_rows_from b whole (after_move l m) (marks_after v m) (ages_then b m a)
    (writes_left b.script w m) (Some m) (first_then c m (next_of ms) first) ms)

-- the rows of all moves, and where the log ends well what is said of a run that ended early
abbrev pub transcript : Option (List Text) → Option (List Text) → Bool → List Move → Text
transcript script answers whole moves =
    transcript_rows_from (record { script = script; answers = answers }) whole unstarted no_marks
    no_ages_known 0
    None None moves
