-- The table of faults.
-- Profile, "What a log shows".
use Rattle.std.specs.Prelude.{ℕ, ◌+◌, ◌*◌, ◌/◌, Bool, true, false, ◌==◌, if◌then◌else◌, List, [], ◌∷◌, ◌++◌}
use Rattle.std.specs.Prelude.{flat_map, slice_index, codes}
use Rattle.mm_types.specs.{Text, decimal, Move}
use Rattle.mm_move_rules.specs.{numbered}
use Rattle.mm_text.specs.{left_in, right_in, numbers_in}
use Rattle.mm_csv.specs.{csv_row}
use Rattle.mm_reports.specs.Faults.{FaultPlace}
use Rattle.mm_reports.specs.Fields.{fault_fields}
use Rattle.mm_reports.specs.Tallies.{Table, FaultTally, fault_tally}
use Rattle.mm_reports.specs.declared.styles.Style.{Style}
use Rattle.mm_reports.specs.declared.styles.Style.TheVariants as style

abbrev pub fault_head : Text
fault_head =
    codes "process   page                hard   standby  modified   writing"
    ++ (codes "    active  demand-0      copy  collided  hard of hard+soft" ++ 10 ∷ [])

-- all that is found in a frame
abbrev pub soft_in : List ℕ → ℕ
soft_in counts =
    slice_index counts 1 + slice_index counts 2 + slice_index counts 3 + slice_index counts 4

-- how many of a hundred hard and soft faults are hard
abbrev pub share : ℕ → ℕ → Text
share hard soft =
    if hard + soft == 0 then []
    else codes "  " ++ (right_in 14 (decimal (100 * hard / (hard + soft))) ++ codes " %")

abbrev pub fault_row : ℕ → Text → List ℕ → Text
fault_row pid page counts =
    left_in 9 (decimal pid) ++ (32 ∷ [] ++ (left_in 14 page ++ (numbers_in 10 counts
    ++ (share (slice_index counts 0) (soft_in counts) ++ 10 ∷ []))))

-- `p1.17`, `s0.3`
abbrev pub letter : Bool → Text
letter shared = if shared then codes "s" else codes "p"

abbrev pub fault_page_text : FaultPlace → Text
fault_page_text place = letter place.1 ++ (decimal place.2 ++ (codes "." ++ decimal place.3))

abbrev pub fault_csv_head : Text
fault_csv_head =
    codes "process,page,hard,standby,modified,writing,active,demand-zero,copy,collided" ++ 10 ∷ []

abbrev pub fault_row_in : Style → ℕ → Text → List ℕ → Text
fault_row_in style.Columns pid page counts = fault_row pid page counts
fault_row_in style.Csv pid page counts = csv_row (fault_fields pid page counts)

-- the row of a page, if it is of this process
abbrev pub page_row : Style → ℕ → FaultPlace × List ℕ → Text
page_row s pid e = if e.0.0 == pid then fault_row_in s pid (fault_page_text e.0) e.1 else []

abbrev pub process_rows : Style → Table FaultPlace → ℕ × List ℕ → Text
process_rows s pages e =
    fault_row_in s e.0 (codes "all") e.1 ++ flat_map (page_row s e.0) pages

-- how reads of a device ended, and writes
unfoldable pub reads_text : ℕ → ℕ → Text
reads_text read failed =
    numbered (codes ": ") read (numbered (codes " read, ") failed (codes " reads failed, "))

unfoldable pub writes_text : ℕ → ℕ → Text
writes_text written failed =
    numbered [] written (numbered (codes " written, ") failed (codes " writes failed" ++ 10 ∷ []))

abbrev pub device_row : Text → List ℕ → Text
device_row name ends =
    name ++ (reads_text (slice_index ends 0) (slice_index ends 1)
    ++ writes_text (slice_index ends 2) (slice_index ends 3))

unfoldable pub hard_text : ℕ → ℕ → Text
hard_text zero_fills hard =
    numbered (codes "as mmlog check counts: zero fills ") zero_fills
    (numbered (codes ", hard ") hard (codes ", soft "))

unfoldable pub soft_text : ℕ → ℕ → Text
soft_text soft first_uses =
    numbered [] soft (numbered (codes " (") first_uses
    (codes " of them first uses of pages that an earlier line read in)" ++ 10 ∷ []))

abbrev pub check_row : FaultTally → Text
check_row t = hard_text t.zero_fills t.hard ++ soft_text t.soft t.first_uses

-- the table; in columns with what is counted of the devices, and as a check of the log counts
abbrev pub tally_text : Style → FaultTally → Text
tally_text style.Columns t =
    fault_head ++ (flat_map (process_rows style.Columns t.pages) t.processes
    ++ (device_row (codes "paging file") t.paging_file ++ (device_row (codes "files") t.files
    ++ check_row t)))
tally_text style.Csv t =
    fault_csv_head ++ flat_map (process_rows style.Csv t.pages) t.processes

-- nothing where the log does not replay
abbrev pub tally_said : Style → Bool → FaultTally → Text
tally_said s true t = tally_text s t
tally_said s false t = []

abbrev pub fault_rows : Style → Bool → List Move → Text
fault_rows s whole moves = tally_said s whole (fault_tally moves)
