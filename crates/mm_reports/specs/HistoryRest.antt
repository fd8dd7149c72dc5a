-- The rest of a history, where the row of the last move is still to come.
-- Profile, "What a log shows".
use Rattle.std.specs.Prelude.{Bool, List, [], ◌++◌, Option, Some, None}
use Rattle.mm_types.specs.{Text, Move}
use Rattle.mm_move_rules.specs.{FrameLife}
use Rattle.mm_move_classes.specs.{next_of, marks_of}
use Rattle.mm_sentences.specs.{facts_of}
use Rattle.mm_log_walk.specs.{class_then, move_of, Classed}
use Rattle.mm_csv.specs.{head_left}
use Rattle.mm_reports.specs.Histories.{history_head, history_row, history_rows_from, frame_state_before}
use Rattle.mm_reports.specs.declared.histories.HistoryTeller.{HistoryTeller}
use Rattle.mm_reports.specs.declared.history_rows.Noted.{Noted}
use Rattle.mm_reports.specs.declared.subjects.Subject.{Subject}

-- what has to be known of a move before it is made
abbrev pub noted : FrameLife → Move → Noted
noted l m = record {
  line = l.line;
  facts = facts_of l m;
  was = frame_state_before l (facts_of l m).frame;
}

-- the row of the move that waits for its class
abbrev pub waiting_row : Subject → Option Noted → Option Classed → FrameLife → Text
waiting_row s None c after = []
waiting_row s (Some x) None after = []
waiting_row s (Some x) (Some c) after = history_row s x.line x.was c.class x.facts after

abbrev pub history_rest : HistoryTeller → Bool → FrameLife → List Move → Text
history_rest t whole l ms =
    head_left t.begun (history_head t.subject ms)
    ++ (waiting_row t.subject t.waiting (class_then t.classifier.pending (next_of ms)) l
    ++ history_rows_from t.subject whole l (marks_of t.classifier.marks)
    (move_of t.classifier.pending) ms)
