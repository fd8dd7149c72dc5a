-- The events that are still to come, from where the row of one move waits for the next move.
-- Profile, "What a log shows".
use Rattle.std.specs.Prelude.{Bool, List, [], ◌++◌, Option, Some, None}
use Rattle.mm_types.specs.{Text, Move}
use Rattle.mm_move_rules.specs.{FrameLife}
use Rattle.mm_move_classes.specs.{MarksOf, marks_of, next_of}
use Rattle.mm_csv.specs.{head_left}
use Rattle.mm_log_walk.specs.{class_then, move_of, Classed, Pending, Beside}
use Rattle.mm_transcripts.specs.{AgesOf, ages_shown}
use Rattle.mm_events.specs.Events.{class_row, event_head, events_from}
use Rattle.mm_events.specs.declared.rows.Noted.{Noted}
use Rattle.mm_events.specs.declared.tellers.EventTeller.{EventTeller}

-- the row of the move that waits for its class
abbrev pub waiting_event_row : Option Noted → Option Classed → FrameLife → Text
waiting_event_row None c after = []
waiting_event_row (Some x) None after = []
waiting_event_row (Some x) (Some c) after = class_row x c.class after

abbrev pub events_still : Beside → Bool → MarksOf → Option Pending → Option Noted → AgesOf
    → FrameLife → List Move → Text
events_still b begun v p x a l ms =
    head_left begun event_head
    ++ (waiting_event_row x (class_then p (next_of ms)) l ++ events_from b l v a (move_of p) ms)

abbrev pub beside_of_events : EventTeller → Beside
beside_of_events t = record { script = t.script.now; answers = t.answers.now }

abbrev pub events_rest : EventTeller → Bool → FrameLife → List Move → Text
events_rest t whole l ms =
    events_still (beside_of_events t) t.begun (marks_of t.classifier.marks) t.classifier.pending
    t.waiting
    (ages_shown t.ages) l ms
