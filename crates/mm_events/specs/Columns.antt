-- The columns of a row of events.
-- Profile, "What a log shows".
use Rattle.std.specs.Prelude.{ℕ, ◌*◌, ◌^◌, nat_lt, if◌then◌else◌, List, [], ◌∷◌, codes, Option}
use Rattle.std.specs.Prelude.{Some, None, option_map}
use Rattle.mm_types.specs.{Text, decimal, Frame, Key, Place, LineKind}
use Rattle.mm_types.specs.declared.numbers.Key.TheVariants.{Private, Shared}
use Rattle.mm_types.specs.declared.moves.LineKind.TheVariants as kind
use Rattle.mm_text.specs.{hex_short}
use Rattle.mm_move_rules.specs.{FrameLife}
use Rattle.mm_move_classes.specs.{Class}
use Rattle.mm_move_classes.specs.declared.classes.Class.TheVariants as class
use Rattle.mm_sentences.specs.{key_text, state_of, state_text, FrameState}
use Rattle.mm_sentences.specs.declared.facts.Facts.{Facts}

-- what the line is to the frames
abbrev pub kind_word : LineKind → Text
kind_word (kind.Machine frames slots depth blocks) = codes "machine"
kind_word (kind.Process pid min max) = codes "process"
kind_word (kind.Grow count) = codes "grow"
kind_word (kind.Unbind pid) = codes "unbind"
kind_word (kind.Access pid) = codes "access"
kind_word (kind.Thread pid) = codes "thread"
kind_word (kind.Trim pid) = codes "trim"
kind_word kind.Writer = codes "writer"
kind_word kind.Zeroer = codes "zeroer"
kind_word kind.Io = codes "io"
kind_word kind.Call = codes "call"

-- what happened. Classes that differ in their reason alone have one name.
abbrev pub class_text : Class → Text
class_text class.DemandZeroAdded = codes "added"
class_text class.FilePageAdded = codes "added"
class_text class.CopyOnWriteFault = codes "copy-on-write"
class_text class.Deleted = codes "deleted"
class_text class.DeletedInFlight = codes "deleted"
class_text class.ZeroedByThread = codes "zeroed"
class_text class.ZeroedOnDemand = codes "zeroed"
class_text class.StandbyRepurposed = codes "repurposed"
class_text class.DemandZeroFault = codes "demand-zero"
class_text class.FrameForCopy = codes "frame for a copy"
class_text class.HardFaultFromPagingFile = codes "hard fault"
class_text class.HardFaultFromFile = codes "hard fault"
class_text class.PageInDone = codes "read in"
class_text class.CollidedFault = codes "collided fault"
class_text class.PageInDoneDeleted = codes "read in"
class_text class.PageInFailed = codes "read failed"
class_text class.PageInFailedDeleted = codes "read failed"
class_text class.MadeValid = codes "made valid"
class_text class.FirstUse = codes "first use"
class_text class.SoftFaultFromStandby = codes "soft fault"
class_text class.SoftFaultFromModified = codes "soft fault"
class_text class.SoftFaultInTransition = codes "soft fault"
class_text class.SoftFaultShared = codes "soft fault"
class_text class.PlaceEnds = codes "given up"
class_text class.Trimmed = codes "trimmed"
class_text class.TrimmedForWantOfFrames = codes "trimmed"
class_text class.Replaced = codes "replaced"
class_text class.MakesWayForCopy = codes "given up"
class_text class.FirstWrite = codes "first write"
class_text class.FirstWriteInFlight = codes "first write"
class_text class.WriteByWriter = codes "write begun"
class_text class.WriteForWantOfFrames = codes "write begun"
class_text class.WriteByFlush = codes "write begun"
class_text class.WriteDone = codes "written out"
class_text class.WriteDoneChanged = codes "written out"
class_text class.WriteDoneDeleted = codes "written out"
class_text class.WriteFailed = codes "write failed"
class_text class.WriteFailedDeleted = codes "write failed"

-- ---- the page

abbrev pub page_of_key : Option Key → Option Place
page_of_key None = None
page_of_key (Some (Private p v)) = Some (record { pid = p; vpn = v })
page_of_key (Some (Shared a i)) = None

abbrev pub page_or_key_page : Option Place → Option Key → Option Place
page_or_key_page (Some place) k = Some place
page_or_key_page None k = page_of_key k

-- the virtual page that a move is about: the place that becomes valid or ends, or else that of a
-- private page; a shared page has none of its own
abbrev pub page_of_move : Facts → Option Place
page_of_move x = page_or_key_page x.place x.key

-- the process that a line is of
abbrev pub line_process : LineKind → Option ℕ
line_process (kind.Process pid min max) = Some pid.0
line_process (kind.Unbind pid) = Some pid.0
line_process (kind.Access pid) = Some pid.0
line_process (kind.Thread pid) = Some pid.0
line_process (kind.Trim pid) = Some pid.0
line_process _ = None

-- that of the page, or else that of the line
abbrev pub process_or_line : Option Place → LineKind → Option ℕ
process_or_line (Some place) k = Some place.pid.0
process_or_line None k = line_process k

abbrev pub process_of_move : Facts → LineKind → Option ℕ
process_of_move x k = process_or_line (page_of_move x) k

abbrev pub page_column : Option Place → Option ℕ
page_column page = option_map (λ place. place.vpn.0) page

-- in decimal; empty where there is none
abbrev pub option_text : Option ℕ → Text
option_text None = []
option_text (Some n) = decimal n

-- the address of a page of user space, in hexadecimal
abbrev pub address_column : Option ℕ → Text
address_column None = []
address_column (Some vpn) = if nat_lt vpn (2 ^ 20) then hex_short (vpn * 4096) else []

-- its process, its number, its address
abbrev pub page_columns : Facts → LineKind → List Text
page_columns x k =
    option_text (process_of_move x k) ∷ option_text (page_column (page_of_move x))
    ∷ address_column (page_column (page_of_move x)) ∷ []

-- ---- the frame

abbrev pub key_field : Option Key → Text
key_field None = []
key_field (Some k) = key_text k

abbrev pub frame_column : Option Frame → Option ℕ
frame_column frame = option_map (λ f. f.0) frame

abbrev pub state_field : Option FrameState → Text
state_field None = []
state_field (Some s) = state_text s

abbrev pub state_in : FrameLife → Option Frame → Option FrameState
state_in l frame = option_map (λ f. state_of l f.0) frame

-- the page's key, its frame, and the frame's state before the move and after it
abbrev pub frame_columns : Facts → Option FrameState → FrameLife → List Text
frame_columns x was after =
    key_field x.key ∷ option_text (frame_column x.frame) ∷ state_field was
    ∷ state_field (state_in after x.frame) ∷ []
