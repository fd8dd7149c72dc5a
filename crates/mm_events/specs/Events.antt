-- Events: a row for each move of a log, which says what happened in the words of its class.
-- Profile, "What a log shows".
use Rattle.std.specs.Prelude.{Bool, List, [], ◌∷◌, ◌++◌, codes, Option, Some, None}
use Rattle.mm_types.specs.{Text, decimal, Move}
use Rattle.mm_move_rules.specs.{FrameLife, unstarted, after_move}
use Rattle.mm_move_classes.specs.{MarksOf, no_marks, marks_after, class_of, next_of, Class}
use Rattle.mm_csv.specs.{csv_row}
use Rattle.mm_sentences.specs.{facts_of}
use Rattle.mm_transcripts.specs.{AgesOf, no_ages_known, ages_then, reason_then, Reason}
use Rattle.mm_log_walk.specs.{Beside}
use Rattle.mm_events.specs.Columns.{class_text, frame_columns, kind_word, page_columns, state_in}
use Rattle.mm_events.specs.Reasons.{reason_column}
use Rattle.mm_events.specs.declared.rows.Noted.{Noted}

abbrev pub event_head : Text
event_head = codes "line,kind,class,process,page,address,key,frame,from,to,reason" ++ 10 ∷ []

-- what has to be known of a move before it is made
abbrev pub noted_as : FrameLife → Move → Option Reason → Noted
noted_as l m reason = record {
  line = l.line;
  kind = l.kind;
  facts = facts_of l m;
  was = state_in l (facts_of l m).frame;
  reason = reason;
}

abbrev pub event_noted : Beside → AgesOf → FrameLife → Move → Noted
event_noted b a l m = noted_as l m (reason_then b a l m)

-- the fields of a move of this class, by the state before it and the one after it
abbrev pub event_fields : Noted → Class → FrameLife → List Text
event_fields x c after =
    decimal x.line ∷ kind_word x.kind ∷ class_text c
    ∷ (page_columns x.facts x.kind ++ (frame_columns x.facts x.was after
    ++ reason_column c x.facts x.reason ∷ []))

abbrev pub event_row : Noted → Class → FrameLife → Text
event_row x c after = csv_row (event_fields x c after)

-- a move without a class begins a line
abbrev pub class_row : Noted → Option Class → FrameLife → Text
class_row x None after = []
class_row x (Some c) after = event_row x c after

-- the rows of the moves that come, in this state, with these marks and ages, after this move
abbrev pub events_from : Beside → FrameLife → MarksOf → AgesOf → Option Move → List Move → Text
events_from b l v a before [] = []
events_from b l v a before (m ∷ ms) =
    class_row (event_noted b a l m) (class_of l v before m (next_of ms)) (after_move l m)
    ++ events_from b (after_move l m) (marks_after v m) (ages_then b m a) (Some m) ms

-- the head, and the rows of all moves, whether the log ends well or not
abbrev pub events : Option (List Text) → Option (List Text) → Bool → List Move → Text
events script answers whole moves =
    event_head
    ++ events_from (record { script = script; answers = answers }) unstarted no_marks no_ages_known
    None
    moves
