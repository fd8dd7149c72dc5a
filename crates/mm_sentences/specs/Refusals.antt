-- Why a move is not legal, in words: a text for each part of its condition, with what there is in
-- its place.
use Rattle.std.specs.Prelude.{ℕ, ◌+◌, Bool, true, false, if◌then◌else◌, List, [], ◌∷◌, ◌++◌}
use Rattle.std.specs.Prelude.{length, codes, Option, Some, None}
use Rattle.mm_types.specs.{Text, decimal, limit_of, Frame, Key, Place, Held, Move}
use Rattle.mm_types.specs.declared.frames.Held.TheVariants as held
use Rattle.std.specs.Prelude.{slice_index_or}
use Rattle.mm_move_rules.specs.{ResidentSet, record_at, is_empty, is_on, is_read, FrameLife, set_of, is_live, is_access, is_thread, is_touch, is_writer}
use Rattle.mm_move_rules.specs.{touches, trims, place_onto, move_text}
use Rattle.mm_replay.specs.{FrameList}
use Rattle.mm_replay.specs.declared.four_lists.FrameList.TheVariants as list
use Rattle.mm_sentences.specs.Words.{key_text, kind_text}
use Rattle.mm_sentences.specs.Parts.{refusal}
use Rattle.mm_sentences.specs.declared.parts.Part.{Part}
use Rattle.mm_sentences.specs.declared.parts.Part.TheVariants as part

-- ---- pieces

-- words, a number, and words
abbrev pub about : Text → ℕ → Text → Text
about front n behind = front ++ (decimal n ++ behind)

-- words and a number
abbrev pub counted_words : Text → ℕ → Text
counted_words front n = front ++ decimal n

-- `line 4 (access 1)`, and what it is not
abbrev pub line_is : FrameLife → Text → Text
line_is l behind =
    about (codes "line ") l.line (codes " (" ++ (kind_text l.kind ++ (codes ")" ++ behind)))

abbrev pub frame_is : Frame → Text → Text
frame_is f behind = about (codes "frame ") f.0 behind

abbrev pub page_is : Key → Text → Text
page_is k behind = codes "page " ++ (key_text k ++ behind)

abbrev pub place_is : Place → Text → Text
place_is p behind = place_onto p [] ++ behind

-- the name of a list
abbrev pub name_of_list : FrameList → Text
name_of_list list.Zeroed = codes "zeroed"
name_of_list list.Free = codes "free"
name_of_list list.Standby = codes "standby"
name_of_list list.Modified = codes "modified"

-- `; free: none`, or `; the first is 3`
abbrev pub first_is : Text → List ℕ → Text
first_is name [] = codes "; " ++ (name ++ codes ": none")
first_is name (f ∷ fs) = counted_words (codes "; the first is ") f

-- `frame 0 is not the first free frame; free: none`
abbrev pub not_first : Text → List ℕ → Frame → Text
not_first name frames f =
    frame_is f (codes " is not the first " ++ (name ++ (codes " frame" ++ first_is name frames)))

-- `zeroed is not empty; the first is 3`
abbrev pub not_empty : Text → List ℕ → Text
not_empty name frames = name ++ (codes " is not empty" ++ first_is name frames)

abbrev pub depth_is : FrameLife → Text
depth_is l =
    decimal (length l.flight)
    ++ counted_words (codes " requests are in flight, and the depth is ") l.machine.depth

abbrev pub stands_text : Key → Held → Text
stands_text k (held.Frame f) = page_is k (counted_words (codes " is in frame ") f.0)
stands_text k (held.Slot s) = page_is k (counted_words (codes " is in slot ") s.0)
stands_text k (held.Block b) = page_is k (counted_words (codes " is in block ") b.0)
stands_text k held.Zero = page_is k (codes " is demand-zero")
stands_text k held.Dead = codes "there is no " ++ page_is k []

-- where a page is valid, by where it stands
abbrev pub mapped_at : FrameLife → Key → Held → Text
mapped_at l k (held.Frame f) =
    page_is k (about (codes " is valid at ") (record_at l.frames f.0).shares (codes " places"))
mapped_at l k (held.Slot s) = []
mapped_at l k (held.Block b) = []
mapped_at l k held.Zero = []
mapped_at l k held.Dead = []

abbrev pub holds_what : Frame → Place → Option Key → Text
holds_what f p None = frame_is f (codes " holds no page")
holds_what f p (Some k) =
    frame_is f (codes " holds " ++ page_is k (codes ", no page of " ++ place_onto p []))

-- how many pages are in a working set, against one of its two limits
abbrev pub pages_are : Text → ℕ → ℕ → Text
pages_are name resident limit =
    about (codes " has ") resident
    (codes " pages, and its " ++ (name ++ counted_words (codes " is ") limit))

abbrev pub set_is : Text → ℕ → ℕ → ℕ → Text
set_is name pid resident limit =
    about (codes "the working set of process ") pid (pages_are name resident limit)

abbrev pub no_process : ℕ → Text
no_process pid = counted_words (codes "there is no process ") pid

abbrev pub at_max : ℕ → Option ResidentSet → Text
at_max pid None = no_process pid
at_max pid (Some s) = set_is (codes "maximum") pid s.resident s.max

abbrev pub at_min : ℕ → Option ResidentSet → Text
at_min pid None = no_process pid
at_min pid (Some s) = set_is (codes "minimum") pid s.resident s.min

-- why no line of this kind ends a place of this process
abbrev pub keeps_place : FrameLife → ℕ → Text
keeps_place l pid =
    if trims pid l.kind then at_min pid (set_of l pid)
    else if touches pid l.kind then at_max pid (set_of l pid)
    else if is_access l.kind then codes "frames are left on zeroed, free or standby"
    else line_is l (counted_words (codes " ends no place of process ") pid)

abbrev pub no_paging_text : FrameLife → Key → Text
no_paging_text l k =
    if is_live l k then page_is k (codes " is a file's") else codes "there is no " ++ page_is k []

abbrev pub request_is : Bool → Text
request_is true = codes " is being read"
request_is false = codes " is being written"

abbrev pub not_lowest : Bool → Text
not_lowest true = codes " is not the lowest free slot"
not_lowest false = codes " is not free"

abbrev pub not_modified : Frame → Text
not_modified f = frame_is f (codes " is not on the modified list")

abbrev pub keeps_block : FrameLife → Frame → Text
keeps_block l f =
    if is_access l.kind then not_modified f
    else if is_writer l.kind
    then (if is_on f.0 l.frames.modified then depth_is l else not_modified f)
    else line_is l (codes " is no access, no writer and no call")

-- ---- each part

abbrev pub part_text : FrameLife → Part → Text
part_text l (part.NextLine n) = counted_words (codes "the next line is ") (l.line + 1)
part_text l part.InDepth = depth_is l
part_text l part.FirstLine = codes "the machine is known already"
part_text l (part.MachineRange k) = codes "its numbers are out of range"
part_text l part.Started = codes "the machine is not known yet"
part_text l (part.NextProcess pid) =
    counted_words (codes "the next process is ") (length l.sets + 1)
part_text l (part.FewProcesses pid) = codes "there are at most 64 processes"
part_text l (part.SomeSlots n) = codes "it grows by no slot"
part_text l (part.FewSlots n) = codes "there are at most 262144 slots"
part_text l (part.NotLive k) = page_is k (codes " is there already")
part_text l part.Commit =
    about (codes "the commit limit of ") (limit_of l.machine) (codes " pages is reached")
part_text l (part.CallOrCopy k) = line_is l (codes " is no call, and makes no copy of a page")
part_text l part.Call = line_is l (codes " is no call")
part_text l (part.OfSection k) = page_is k (codes " is no page of a file")
part_text l (part.BlockThere b) = about (codes "there are ") l.machine.blocks (codes " file blocks")
part_text l (part.BlockNew b) = about (codes "file block ") b.0 (codes " had a page before")
part_text l part.CallOrUnbind = line_is l (codes " is no call and no unbind")
part_text l (part.OfPagingFile k) = no_paging_text l k
part_text l (part.Unmapped k) = mapped_at l k (l.stands k)
part_text l (part.FirstFree f) = not_first (codes "free") l.frames.free f
part_text l part.Zeroes =
    if is_touch l.kind then not_empty (codes "zeroed") l.frames.zeroed
    else line_is l (codes " is no zeroer and no access")
part_text l (part.FirstStandby f) = not_first (codes "standby") l.frames.standby f
part_text l part.ZeroedEmpty = not_empty (codes "zeroed") l.frames.zeroed
part_text l part.FreeEmpty = not_empty (codes "free") l.frames.free
part_text l part.Access = line_is l (codes " is no access")
part_text l (part.FirstZeroed f) = not_first (codes "zeroed") l.frames.zeroed f
part_text l (part.DemandZero k) = stands_text k (l.stands k)
part_text l (part.FirstToRead f) =
    if is_empty l.frames.free
    then codes "free is empty, and " ++ not_first (codes "zeroed") l.frames.zeroed f
    else not_first (codes "free") l.frames.free f
part_text l (part.OnDevice k) = stands_text k (l.stands k)
part_text l part.AccessReads =
    if is_thread l.kind then depth_is l else line_is l (codes " is no access")
part_text l (part.BeingRead f) = frame_is f (codes " is not being read")
part_text l part.IoOrAccess = line_is l (codes " is no io and no access")
part_text l (part.FitsPlace f p) = holds_what f p (record_at l.frames f.0).owner
part_text l (part.NotBeingRead f) = frame_is f (codes " is being read")
part_text l (part.NotValid p) = place_is p (codes " is valid already")
part_text l (part.AccessOf pid) =
    line_is l (counted_words (codes " is no access of process ") pid.0)
part_text l (part.BelowMax pid) = at_max pid.0 (set_of l pid.0)
part_text l (part.Valid p) = place_is p (codes " is not valid")
part_text l (part.MayEnd p) = keeps_place l p.pid.0
part_text l (part.Active f) = frame_is f (codes " is valid nowhere")
part_text l (part.Clean f) = frame_is f (codes " is changed already")
part_text l (part.OnModified f) = not_modified f
part_text l (part.HoldsPaging f) = frame_is f (codes " holds no page of the paging file")
part_text l (part.LowestSlot s) =
    about (codes "slot ") s.0 (not_lowest (slice_index_or l.free_slots s.0 false))
part_text l part.WritesSlot =
    if is_writer l.kind then depth_is l else line_is l (codes " is no access and no writer")
part_text l (part.Changed f) = frame_is f (codes " is not changed")
part_text l (part.Owned f) = frame_is f (codes " holds no page")
part_text l (part.Quiet f) = frame_is f (request_is (is_read (record_at l.frames f.0).request))
part_text l (part.OfBlock f b) = frame_is f (counted_words (codes " holds no page of block ") b.0)
part_text l (part.WritesBlock f) = keeps_block l f
part_text l (part.BeingWritten f) = frame_is f (codes " is not being written")
part_text l part.IoAccessOrCall = line_is l (codes " is no io, no access and no call")

abbrev pub part_words : FrameLife → Option Part → Text
part_words l None = []
part_words l (Some p) = part_text l p

-- nothing of a legal move
abbrev pub refusal_text : FrameLife → Move → Text
refusal_text l m = part_words l (refusal l m)

-- `: give 0 p1.16: frame 0 is not the first zeroed frame; zeroed: none`, behind the number of its
-- line
abbrev pub why_not : FrameLife → Move → Text
why_not l m = codes ": " ++ (move_text m ++ (codes ": " ++ refusal_text l m))
