-- All that stands after a line: lists, requests, frames, working sets and slots.
-- Profile, "What a log shows".
use Rattle.std.specs.Prelude.{ℕ, zero, suc, ◌+◌, Bool, ◌==◌, if◌then◌else◌, List, [], ◌∷◌, ◌++◌}
use Rattle.std.specs.Prelude.{flat_map, codes, bytes_eq}
use Rattle.std.specs.declared.cmp.Ordering.{Ordering}
use Rattle.std.specs.Ordering.{nat_cmp, ordering_then}
use Rattle.std.specs.BTreeMap.{is_at}
use Rattle.std.specs.BTreeSet.{insert_key}
use Rattle.std.specs.Set.{remove_key}
use Rattle.mm_types.specs.{Text, decimal, Move, Place}
use Rattle.mm_types.specs.declared.moves.LineKind.TheVariants as kind
use Rattle.mm_types.specs.declared.moves.Move.TheVariants as move
use Rattle.mm_move_rules.specs.{ResidentSet, after_move, FrameTable, record_at, FrameLife, counts_of, unstarted, numbered}
use Rattle.mm_sentences.specs.{frame_row_text, state_by}
use Rattle.mm_reports.specs.Lines.{is_line}

-- ---- the valid pages

-- a valid page: its process, and its number
abbrev pub ValidPage : Type 0
ValidPage = ℕ × ℕ

abbrev pub page_cmp : ValidPage → ValidPage → Ordering
page_cmp a b = ordering_then (nat_cmp a.0 b.0) (nat_cmp a.1 b.1)

abbrev pub valid_page_at : Place → ValidPage
valid_page_at place = (place.pid.0, place.vpn.0)

-- the valid pages, rising, after one move more
abbrev pub pages_after : List ValidPage → Move → List ValidPage
pages_after pages (move.At n (kind.Machine frames slots depth blocks)) = []
pages_after pages (move.Map f place) = insert_key page_cmp pages (valid_page_at place)
pages_after pages (move.Unmap place) = remove_key (is_at (page_cmp (valid_page_at place))) pages
pages_after pages _ = pages

-- ---- rows

abbrev pub frame_word : ℕ → Text
frame_word f = 32 ∷ decimal f

-- a name, and frames in order
abbrev pub list_row : Text → List ℕ → Text
list_row name frames = name ++ (flat_map frame_word frames ++ 10 ∷ [])

-- what is told of a frame
abbrev pub frame_words : FrameTable → ℕ → Text
frame_words d f = frame_row_text (state_by d f (record_at d f)) (record_at d f)

-- the numbers of so many frames from the first on: `frame 3`, `frames 3 to 60`
abbrev pub frames_name : ℕ → ℕ → Text
frames_name first last =
    if first == last then codes "frame " ++ decimal first
    else codes "frames " ++ (decimal first ++ (codes " to " ++ decimal last))

abbrev pub run_line : ℕ → ℕ → Text → Text
run_line first last words = frames_name first last ++ (32 ∷ (words ++ 10 ∷ []))

-- the rows of so many frames that follow the last, where one row of several says what is told of
-- each from the first to the last, and of no frame before or behind them
abbrev pub runs_from : FrameTable → ℕ → ℕ → Text → ℕ → Text
runs_from d first last words zero = run_line first last words
runs_from d first last words (suc count) =
    let next : Text = frame_words d (last + 1) in
    if bytes_eq next words then runs_from d first (last + 1) words count
    else run_line first last words ++ runs_from d (last + 1) (last + 1) next count

-- the rows of so many frames
abbrev pub frame_lines : FrameTable → ℕ → Text
frame_lines d zero = []
frame_lines d (suc count) = runs_from d 0 0 (frame_words d 0) count

-- the number of a page, if it is of this process
abbrev pub page_word : ℕ → ValidPage → Text
page_word pid page = if page.0 == pid then 32 ∷ decimal page.1 else []

abbrev pub process_line : List ValidPage → ℕ → ResidentSet → Text
process_line pages pid s =
    numbered (codes "process ") pid
    (numbered (codes " min ") s.min (numbered (codes " max ") s.max (codes " pages"
    ++ (flat_map (page_word pid) pages ++ 10 ∷ []))))

-- the processes from this number on
abbrev pub process_lines : List ValidPage → ℕ → List ResidentSet → Text
process_lines pages pid [] = []
process_lines pages pid (s ∷ ss) = process_line pages pid s ++ process_lines pages (pid + 1) ss

abbrev pub slots_line : FrameLife → Text
slots_line l =
    numbered (codes "slots ") (counts_of l).free_slots
    (numbered (codes " of ") l.machine.slots (codes " free" ++ 10 ∷ []))

abbrev pub list_rows : FrameLife → Text
list_rows l =
    list_row (codes "zeroed") l.frames.zeroed ++ (list_row (codes "free") l.frames.free
    ++ (list_row (codes "standby") l.frames.standby
    ++ (list_row (codes "modified") l.frames.modified
    ++ list_row (codes "requests") l.flight)))

abbrev pub line_state_text : FrameLife → List ValidPage → Text
line_state_text l pages =
    numbered (codes "after line ") l.line (10 ∷ [])
    ++ (list_rows l ++ (frame_lines l.frames l.machine.frames
    ++ (process_lines pages 1 l.sets ++ slots_line l)))

-- ---- the line that is asked for

-- what is told where a line ends
abbrev pub state_at : ℕ → FrameLife → List ValidPage → Text
state_at line l pages =
    if l.line == 0 then [] else if is_line line l then line_state_text l pages else []

-- what is told as this move ends a line
abbrev pub state_ended_by : ℕ → FrameLife → List ValidPage → Move → Text
state_ended_by line l pages (move.At n k) = state_at line l pages
state_ended_by line l pages _ = []

abbrev pub state_from : ℕ → Bool → FrameLife → List ValidPage → List Move → Text
state_from line whole l pages [] = if whole then state_at line l pages else []
state_from line whole l pages (m ∷ ms) =
    state_ended_by line l pages m ++ state_from line whole (after_move l m) (pages_after pages m) ms

abbrev pub state_rows : ℕ → Bool → List Move → Text
state_rows line whole moves = state_from line whole unstarted [] moves
