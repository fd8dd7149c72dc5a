-- What became of one frame, or of one page, move by move.
-- Profile, "What a log shows".
use Rattle.std.specs.Prelude.{ℕ, Bool, false, ◌==◌, nat_lt, if◌then◌else◌, List, [], ◌∷◌, ◌++◌, codes}
use Rattle.std.specs.Prelude.{Option, Some, None}
use Rattle.mm_types.specs.{Text, decimal, Held, Move, Frame, Key}
use Rattle.mm_types.specs.declared.frames.Held.TheVariants as held
use Rattle.mm_types.specs.declared.moves.LineKind.TheVariants as kind
use Rattle.mm_types.specs.declared.moves.Move.TheVariants as move
use Rattle.mm_move_rules.specs.{after_move, FrameLife, same_key, unstarted, held_at, numbered, is_frame}
use Rattle.mm_move_classes.specs.{class_of, next_of, MarksOf, marks_after, no_marks, Class}
use Rattle.mm_sentences.specs.{facts_of, sentence_text, frame_row, state_of, state_text, key_text, FrameState}
use Rattle.mm_sentences.specs.declared.facts.Facts.{Facts}
use Rattle.mm_text.specs.{left_in}
use Rattle.mm_reports.specs.declared.subjects.Subject.{Subject}
use Rattle.mm_reports.specs.declared.subjects.Subject.TheVariants as subject

-- ---- which moves are told

abbrev pub is_key : Key → Option Key → Bool
is_key k None = false
is_key k (Some j) = same_key k j

-- a move is about a frame, or a page
abbrev pub is_about : Subject → Facts → Bool
is_about (subject.Frame n) x = is_frame n x.frame
is_about (subject.Page k) x = is_key k x.key

-- ---- the row of a move

-- the state of the frame before the move, if there is a frame
abbrev pub frame_state_before : FrameLife → Option Frame → Option FrameState
frame_state_before l None = None
frame_state_before l (Some f) = Some (state_of l f.0)

-- and the one after it
abbrev pub change_text : Option FrameState → Option Frame → FrameLife → Text
change_text None f after = []
change_text (Some s) None after = []
change_text (Some s) (Some f) after =
    state_text s ++ (codes " -> " ++ state_text (state_of after f.0))

abbrev pub row_text : ℕ → Option FrameState → Class → Facts → FrameLife → Text
row_text line was class x after =
    codes "line " ++ (left_in 7 (decimal line) ++ (32 ∷ []
    ++ (left_in 26 (change_text was x.frame after) ++ (32 ∷ []
    ++ (sentence_text false class x after ++ 10 ∷ [])))))

-- a move of this class that is about the subject; a move without a class begins a line
abbrev pub history_row : Subject → ℕ → Option FrameState → Option Class → Facts → FrameLife → Text
history_row s line was None x after = []
history_row s line was (Some class) x after =
    if is_about s x then row_text line was class x after else []

abbrev pub move_row : Subject → FrameLife → Move → Option Class → FrameLife → Text
move_row s l m class after =
    let x = facts_of l m in history_row s l.line (frame_state_before l x.frame) class x after

-- ---- head and end

abbrev pub machine_frames : List Move → ℕ
machine_frames (move.At n (kind.Machine frames slots depth blocks) ∷ ms) = frames
machine_frames _ = 0

-- a frame that the machine has, or a page
abbrev pub history_head : Subject → List Move → Text
history_head (subject.Frame n) moves =
    if nat_lt n (machine_frames moves) then numbered (codes "frame ") n (10 ∷ []) else []
history_head (subject.Page k) moves = codes "page " ++ (key_text k ++ 10 ∷ [])

abbrev pub held_words : Held → Text
held_words (held.Frame f) = codes "frame " ++ decimal f.0
held_words (held.Slot s) = codes "slot " ++ decimal s.0
held_words (held.Block b) = codes "block " ++ decimal b.0
held_words held.Zero = codes "zero"
held_words held.Dead = codes "dead"

-- what stands at the end of a whole log; nothing of a frame that the machine does not have
abbrev pub end_text : Subject → FrameLife → Text
end_text (subject.Frame n) l =
    if nat_lt n l.machine.frames then codes "at the end: " ++ (frame_row l n ++ 10 ∷ []) else []
end_text (subject.Page k) l = codes "at the end: " ++ (held_words (held_at l k) ++ 10 ∷ [])

-- ---- a history

abbrev pub history_rows_from : Subject → Bool → FrameLife → MarksOf → Option Move → List Move → Text
history_rows_from s whole l v before [] = if whole then end_text s l else []
history_rows_from s whole l v before (m ∷ ms) =
    move_row s l m (class_of l v before m (next_of ms)) (after_move l m)
    ++ history_rows_from s whole (after_move l m) (marks_after v m) (Some m) ms

abbrev pub history : Subject → Bool → List Move → Text
history s whole moves = history_head s moves
    ++ history_rows_from s whole unstarted no_marks None moves

abbrev pub frame_history : ℕ → Bool → List Move → Text
frame_history n whole moves = history (subject.Frame n) whole moves

abbrev pub key_history : Key → Bool → List Move → Text
key_history k whole moves = history (subject.Page k) whole moves
