-- The transcript that is still to come, from where the row of one move waits for the next move.
-- Profile, "What a log shows".
use Rattle.std.specs.Prelude.{ℕ, Bool, List, [], ◌++◌, Option, Some, None}
use Rattle.mm_types.specs.{Text, Move}
use Rattle.mm_move_rules.specs.{FrameLife}
use Rattle.mm_move_classes.specs.{MarksOf, marks_of, next_of}
use Rattle.mm_sentences.specs.declared.facts.Facts.{Facts}
use Rattle.mm_transcripts.specs.Ages.{AgesOf}
use Rattle.mm_transcripts.specs.Shown.{ages_shown}
use Rattle.mm_transcripts.specs.declared.reasons.Reason.{Reason}
use Rattle.mm_log_walk.specs.{Beside, class_then, move_of, Classed, Pending}
use Rattle.mm_transcripts.specs.Folds.{first_then}
use Rattle.mm_transcripts.specs.Rows.{row_unless_folded}
use Rattle.mm_transcripts.specs.Transcripts.{transcript_rows_from}
use Rattle.mm_transcripts.specs.declared.transcripts.TranscriptTeller.{TranscriptTeller}

-- the row of a move whose class is known now
abbrev pub classed_row : Beside → Option Move → Option Move → Option Classed → Facts
    → Option Reason → FrameLife → Text
classed_row b first next None x r after = []
classed_row b first next (Some c) x r after = row_unless_folded b first next c.m c.class x r after

-- the first of the moves whose rows are one with that of the next
abbrev pub first_behind : Option Classed → Option Move → Option Move → Option Move
first_behind None next first = None
first_behind (Some c) next first = first_then c.class c.m next first

abbrev pub rows_rest : Beside → Bool → MarksOf → Option Pending → Option Move → Facts
    → Option Reason → AgesOf → ℕ → FrameLife → List Move → Text
rows_rest b whole v p first x r a w l ms =
    classed_row b first (next_of ms) (class_then p (next_of ms)) x r l
    ++ transcript_rows_from b whole l v a w (move_of p)
    (first_behind (class_then p (next_of ms)) (next_of ms)
    first) ms

abbrev pub beside_of : TranscriptTeller → Beside
beside_of t = record { script = t.script.now; answers = t.answers.now }

abbrev pub transcript_rest : TranscriptTeller → Bool → FrameLife → List Move → Text
transcript_rest t whole l ms =
    rows_rest (beside_of t) whole (marks_of t.classifier.marks) t.classifier.pending t.first
    t.facts t.reason (ages_shown t.ages) t.left l ms
