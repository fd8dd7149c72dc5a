-- Which moves are faults, of which kind, of which process, and on which page.
-- Profile, "What a log shows".
use Rattle.std.specs.Prelude.{ℕ, Bool, true, false, ◌||◌, Option, Some, None}
use Rattle.mm_types.specs.{Backing, LineKind, Move, Key}
use Rattle.mm_types.specs.declared.frames.Backing.TheVariants as backing
use Rattle.mm_types.specs.declared.moves.LineKind.TheVariants as kind
use Rattle.mm_types.specs.declared.moves.Move.TheVariants as move
use Rattle.mm_types.specs.declared.numbers.Key.TheVariants.{Private, Shared}
use Rattle.mm_move_rules.specs.{record_at, FrameLife}
use Rattle.mm_move_classes.specs.{is_class, Class}
use Rattle.mm_move_classes.specs.declared.classes.Class.TheVariants as class

-- the column in which a class is counted: hard; soft, by where the page was found: standby,
-- modified, transition, active; demand-zero; copy; collided
abbrev pub column_of : Class → Option ℕ
column_of class.HardFaultFromPagingFile = Some 0
column_of class.HardFaultFromFile = Some 0
column_of class.SoftFaultFromStandby = Some 1
column_of class.SoftFaultFromModified = Some 2
column_of class.SoftFaultInTransition = Some 3
column_of class.SoftFaultShared = Some 4
column_of class.DemandZeroFault = Some 5
column_of class.CopyOnWriteFault = Some 6
column_of class.CollidedFault = Some 7
column_of _ = None

-- the process whose access the line is
abbrev pub process_of_line : LineKind → ℕ
process_of_line (kind.Access p) = p.0
process_of_line (kind.Thread p) = p.0
process_of_line _ = 0

-- the page that a fault is on
abbrev pub page_faulted : FrameLife → Move → Option Key
page_faulted l (move.Add k b) = Some k
page_faulted l (move.Give f k) = Some k
page_faulted l (move.Read f k) = Some k
page_faulted l (move.Map f p) = (record_at l.frames f.0).owner
page_faulted l (move.Got f) = (record_at l.frames f.0).owner
page_faulted l _ = None

-- a page of a process, as the table is ordered: by process, private pages before shared ones, by
-- the numbers of their keys
abbrev pub FaultPlace : Type 0
FaultPlace = ℕ × Bool × ℕ × ℕ

abbrev pub place_of : ℕ → Key → FaultPlace
place_of pid (Private p v) = (pid, false, p.0, v.0)
place_of pid (Shared a i) = (pid, true, a.0, i)

-- ---- what a check of a log counts

-- zero fills: demand-zero faults, and frames for copies
abbrev pub is_zero_fill : Option Class → Bool
is_zero_fill c = is_class class.DemandZeroFault c || is_class class.FrameForCopy c

abbrev pub is_hard : Option Class → Bool
is_hard c = is_class class.HardFaultFromPagingFile c || is_class class.HardFaultFromFile c

-- the first use of a page that an earlier line read in
abbrev pub is_first_use : Option Class → Bool
is_first_use c = is_class class.FirstUse c

-- it and the soft faults
abbrev pub is_soft : Option Class → Bool
is_soft c =
    is_first_use c || is_class class.SoftFaultFromStandby c ||
    is_class class.SoftFaultFromModified c
    || is_class class.SoftFaultInTransition c || is_class class.SoftFaultShared c

-- ---- the ends of requests

-- a request on the paging file
abbrev pub is_paged : Backing → Bool
is_paged (backing.Slot s) = true
is_paged (backing.Block b) = false
is_paged backing.None = false

-- how a request ends: read, a read that failed, written, a write that failed
abbrev pub request_end : Move → Option ℕ
request_end (move.Got f) = Some 0
request_end (move.Bad f) = Some 1
request_end (move.Wrote f) = Some 2
request_end (move.Lost f) = Some 3
request_end _ = None

abbrev pub is_on_paging_file : FrameLife → Move → Bool
is_on_paging_file l (move.Got f) = is_paged (record_at l.frames f.0).backing
is_on_paging_file l (move.Bad f) = is_paged (record_at l.frames f.0).backing
is_on_paging_file l (move.Wrote f) = is_paged (record_at l.frames f.0).backing
is_on_paging_file l (move.Lost f) = is_paged (record_at l.frames f.0).backing
is_on_paging_file l _ = false
