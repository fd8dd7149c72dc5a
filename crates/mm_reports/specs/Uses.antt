-- What the page frames are used for: by owner, and by list.
-- Profile, "What a log shows".
use Rattle.std.specs.Prelude.{ℕ, ◌+◌, Bool, ◌==◌, if◌then◌else◌, List, [], ◌∷◌, ◌++◌, map, filter}
use Rattle.std.specs.Prelude.{flat_map}
use Rattle.std.specs.Prelude.{length, count_by, sum, codes, Option, Some, None}
use Rattle.mm_types.specs.{Text, decimal, Counts, Record, Request, Move, Key}
use Rattle.mm_types.specs.declared.numbers.Key.TheVariants.{Private, Shared}
use Rattle.mm_move_rules.specs.{ResidentSet, record_at, has_request, FrameLife, unstarted, counts_of, is_active, is_in_transition, numbered}
use Rattle.mm_text.specs.{right_in, numbers_in}
use Rattle.mm_reports.specs.Lines.{ends_of_lines, said_of_line}
use Rattle.mm_reports.specs.declared.uses.Use.{Use}
use Rattle.mm_reports.specs.declared.uses.Use.TheVariants as use_of_frames
use Rattle.mm_reports.specs.declared.uses.Column.{Column}
use Rattle.mm_reports.specs.declared.uses.Column.TheVariants as column

-- ---- owners

abbrev pub use_by : FrameLife → Option Key → Request → Use
use_by l (Some (Private p v)) r = use_of_frames.ProcessPrivate
use_by l (Some (Shared a i)) r =
    if l.paging (Shared a i) then use_of_frames.PageFileSection else use_of_frames.MappedFile
use_by l None r = if has_request r then use_of_frames.Deleted else use_of_frames.Unused

-- what a frame is used for: its page, if any, or the request of a page that was deleted
abbrev pub use_of : FrameLife → Record → Use
use_of l r = use_by l r.owner r.request

-- the row in which it is told
abbrev pub row_of_use : Use → ℕ
row_of_use use_of_frames.ProcessPrivate = 0
row_of_use use_of_frames.PageFileSection = 1
row_of_use use_of_frames.MappedFile = 2
row_of_use use_of_frames.Deleted = 3
row_of_use use_of_frames.Unused = 4

abbrev pub is_use : FrameLife → Use → Record → Bool
is_use l u r = row_of_use (use_of l r) == row_of_use u

-- ---- cells

-- the frames on a list, by their records
abbrev pub listed_records : FrameLife → List ℕ → List Record
listed_records l frames = map (record_at l.frames) frames

abbrev pub records_in : FrameLife → Column → List Record
records_in l column.Active = filter is_active l.frames.records
records_in l column.Standby = listed_records l l.frames.standby
records_in l column.Modified = listed_records l l.frames.modified
records_in l column.Transition = filter is_in_transition l.frames.records
records_in l column.Zeroed = listed_records l l.frames.zeroed
records_in l column.Free = listed_records l l.frames.free

-- how many frames of this use stand so
abbrev pub cell : FrameLife → Use → Column → ℕ
cell l u c = count_by (is_use l u) (records_in l c)

-- the six cells of a row
abbrev pub cells : FrameLife → Use → List ℕ
cells l u =
    cell l u column.Active ∷ cell l u column.Standby ∷ cell l u column.Modified
    ∷ cell l u column.Transition ∷ cell l u column.Zeroed ∷ cell l u column.Free ∷ []

abbrev pub totals : Counts → List ℕ
totals c = c.active ∷ c.standby ∷ c.modified ∷ c.transition ∷ c.zeroed ∷ c.free ∷ []

-- ---- the table

abbrev pub all_uses : List Use
all_uses =
    use_of_frames.ProcessPrivate ∷ use_of_frames.PageFileSection ∷ use_of_frames.MappedFile
    ∷ use_of_frames.Deleted ∷ use_of_frames.Unused ∷ []

abbrev pub use_name : Use → Text
use_name use_of_frames.ProcessPrivate = codes "Process private         "
use_name use_of_frames.PageFileSection = codes "Page-file section       "
use_name use_of_frames.MappedFile = codes "Mapped file             "
use_name use_of_frames.Deleted = codes "Deleted, I/O in flight  "
use_name use_of_frames.Unused = codes "Unused                  "

-- a name, numbers, and their sum
abbrev pub sum_row : Text → List ℕ → Text
sum_row name ns = name ++ (numbers_in 12 ns ++ (right_in 12 (decimal (sum ns)) ++ 10 ∷ []))

abbrev pub use_row : FrameLife → Use → Text
use_row l u = sum_row (use_name u) (cells l u)

abbrev pub use_head : Text
use_head =
    codes "                              Active     Standby    Modified"
    ++ (codes "  Transition      Zeroed        Free       Total" ++ 10 ∷ [])

abbrev pub use_table : FrameLife → Text
use_table l =
    use_head ++ (flat_map (use_row l) all_uses
    ++ sum_row (codes "Total                   ") (totals (counts_of l)))

-- ---- what else is told

abbrev pub slots_row : FrameLife → Text
slots_row l =
    numbered (codes "paging-file slots free ") (counts_of l).free_slots
    (numbered (codes " of ") l.machine.slots (10 ∷ []))

abbrev pub requests_row : FrameLife → Text
requests_row l =
    numbered (codes "requests in flight ") (length l.flight)
    (numbered (codes ", depth ") l.machine.depth (10 ∷ []))

-- the working set of the process of this number
abbrev pub working_set_row : ℕ → ResidentSet → Text
working_set_row pid s =
    numbered (codes "working set of process ") pid
    (numbered (codes ": ") s.resident
    (numbered (codes " (min ") s.min (numbered (codes ", max ") s.max (41 ∷ 10 ∷ []))))

-- those of the processes from this number on
abbrev pub set_rows : ℕ → List ResidentSet → Text
set_rows pid [] = []
set_rows pid (s ∷ ss) = working_set_row pid s ++ set_rows (pid + 1) ss

-- the use of page frames at the end of a line
abbrev pub use_text : FrameLife → Text
use_text l =
    numbered (codes "use of page frames after line ") l.line (10 ∷ [])
    ++ (use_table l ++ (slots_row l ++ (requests_row l ++ set_rows 1 l.sets)))

abbrev pub use_rows : ℕ → Bool → List Move → Text
use_rows line whole moves = said_of_line line use_text (ends_of_lines whole unstarted moves)
