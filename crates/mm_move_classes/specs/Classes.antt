-- The class of a move, by the state before it, the kind of its line, the moves right before and
-- after it, and which frames were brought in. The rows of a move are tested from the top, and the
-- last has no condition.
-- Profile, "Logs of moves".
use Rattle.std.specs.Prelude.{ℕ, Bool, true, false, not, ◌&&◌, nat_lt, ◌==◌, if◌then◌else◌, is_some}
use Rattle.std.specs.Prelude.{is_none, List, [], ◌∷◌, Option, Some, None}
use Rattle.mm_types.specs.{Block, Key, Place, Record, Held, LineKind, Move}
use Rattle.mm_types.specs.declared.numbers.Key.TheVariants.{Private, Shared}
use Rattle.mm_types.specs.declared.frames.Held.TheVariants as held
use Rattle.mm_types.specs.declared.moves.LineKind.TheVariants as kind
use Rattle.mm_types.specs.declared.moves.Move.TheVariants as move
use Rattle.mm_move_rules.specs.{record_at, is_on, has_request, is_again, FrameLife, unstarted, set_of, key_of_place, is_live, is_access, is_touch}
use Rattle.mm_move_rules.specs.{is_unbind, is_writer, is_zeroer, touches, shows_shared, is_at_max, is_short, after_move}
use Rattle.mm_move_classes.specs.Marks.{MarksOf, no_marks, marks_after}
use Rattle.mm_move_classes.specs.declared.classes.Class.{Class}
use Rattle.mm_move_classes.specs.declared.classes.Class.TheVariants as class

-- ---- pages that come to be, and that are no more

-- an access adds a private page alone where a shared one is valid
abbrev pub class_of_add : LineKind → Option Block → Class
class_of_add k (Some b) = class.FilePageAdded
class_of_add k None = if is_touch k then class.CopyOnWriteFault else class.DemandZeroAdded

-- the page is in a frame that has a request
abbrev pub is_busy : FrameLife → Held → Bool
is_busy l (held.Frame f) = has_request (record_at l.frames f.0).request
is_busy l (held.Slot s) = false
is_busy l (held.Block b) = false
is_busy l held.Zero = false
is_busy l held.Dead = false

abbrev pub class_of_drop : FrameLife → Key → Class
class_of_drop l k = if is_busy l (l.stands k) then class.DeletedInFlight else class.Deleted

-- ---- frames that are found

abbrev pub class_of_clear : LineKind → Class
class_of_clear k = if is_zeroer k then class.ZeroedByThread else class.ZeroedOnDemand

-- the place of a private page is valid: for the shared page that it is a copy of
abbrev pub is_copy_on_write : FrameLife → Key → Bool
is_copy_on_write l (Private p v) = is_some (l.valid (record { pid = p; vpn = v }))
is_copy_on_write l (Shared a i) = false

abbrev pub class_of_give : FrameLife → Key → Class
class_of_give l k = if is_copy_on_write l k then class.FrameForCopy else class.DemandZeroFault

-- a page is read from where it stands
abbrev pub class_of_read : Held → Class
class_of_read (held.Slot s) = class.HardFaultFromPagingFile
class_of_read (held.Block b) = class.HardFaultFromFile
class_of_read (held.Frame f) = class.HardFaultFromFile
class_of_read held.Zero = class.HardFaultFromFile
class_of_read held.Dead = class.HardFaultFromFile

-- ---- the ends of reads

-- the move is a read into this frame
abbrev pub reads_into : ℕ → Option Move → Bool
reads_into f (Some (move.Read g k)) = g.0 == f
reads_into f _ = false

-- a plain access waits for a read that it did not begin itself
abbrev pub class_of_got : LineKind → Record → Bool → Class
class_of_got k r own =
    if is_none r.owner then class.PageInDoneDeleted
    else if is_access k && not own then class.CollidedFault
    else class.PageInDone

abbrev pub class_of_bad : Record → Class
class_of_bad r = if is_none r.owner then class.PageInFailedDeleted else class.PageInFailed

-- ---- places

-- a page is found in a frame: valid elsewhere, being written, or on one of two lists
abbrev pub class_of_soft : FrameLife → ℕ → Record → Class
class_of_soft l f r =
    if nat_lt 0 r.shares then class.SoftFaultShared
    else if has_request r.request then class.SoftFaultInTransition
    else if is_on f l.frames.modified then class.SoftFaultFromModified
    else class.SoftFaultFromStandby

abbrev pub class_of_map : FrameLife → MarksOf → ℕ → Class
class_of_map l v f =
    if v.fresh f then class.MadeValid
    else if v.arrived f then class.FirstUse
    else class_of_soft l f (record_at l.frames f)

abbrev pub is_trim : LineKind → Bool
is_trim (kind.Trim p) = true
is_trim _ = false

-- a shared page is valid where the line's process has a private page: its copy
abbrev pub makes_way : FrameLife → Place → Bool
makes_way l place =
    touches place.pid.0 l.kind && shows_shared l place && is_live l (key_of_place place)

abbrev pub maps_into : ℕ → Option Move → Bool
maps_into pid (Some (move.Map f place)) = place.pid.0 == pid
maps_into pid _ = false

-- the full working set of the line's process makes room for the page that is made valid next
abbrev pub makes_room : FrameLife → ℕ → Option Move → Bool
makes_room l pid after =
    touches pid l.kind && is_at_max (set_of l pid) && maps_into pid after

abbrev pub class_of_unmap : FrameLife → Place → Option Move → Class
class_of_unmap l place after =
    if is_unbind l.kind then class.PlaceEnds
    else if is_trim l.kind then class.Trimmed
    else if makes_way l place then class.MakesWayForCopy
    else if is_access l.kind && is_short l && not (makes_room l place.pid.0 after)
    then class.TrimmedForWantOfFrames
    else class.Replaced

-- ---- changed pages

abbrev pub class_of_soil : Record → Class
class_of_soil r = if has_request r.request then class.FirstWriteInFlight else class.FirstWrite

abbrev pub class_of_write : LineKind → Class
class_of_write k =
    if is_writer k then class.WriteByWriter
    else if is_access k then class.WriteForWantOfFrames
    else class.WriteByFlush

abbrev pub class_of_wrote : Record → Class
class_of_wrote r =
    if is_none r.owner then class.WriteDoneDeleted
    else if is_again r.request then class.WriteDoneChanged
    else class.WriteDone

abbrev pub class_of_lost : Record → Class
class_of_lost r = if is_none r.owner then class.WriteFailedDeleted else class.WriteFailed

-- ---- a move

-- none for `at`, which begins a line
abbrev pub class_of : FrameLife → MarksOf → Option Move → Move → Option Move → Option Class
class_of l v before (move.At n k) after = None
class_of l v before (move.Add k b) after = Some (class_of_add l.kind b)
class_of l v before (move.Drop k) after = Some (class_of_drop l k)
class_of l v before (move.Clear f) after = Some (class_of_clear l.kind)
class_of l v before (move.Steal f) after = Some class.StandbyRepurposed
class_of l v before (move.Give f k) after = Some (class_of_give l k)
class_of l v before (move.Read f k) after = Some (class_of_read (l.stands k))
class_of l v before (move.Got f) after =
    Some (class_of_got l.kind (record_at l.frames f.0) (reads_into f.0 before))
class_of l v before (move.Bad f) after = Some (class_of_bad (record_at l.frames f.0))
class_of l v before (move.Map f place) after = Some (class_of_map l v f.0)
class_of l v before (move.Unmap place) after = Some (class_of_unmap l place after)
class_of l v before (move.Soil f) after = Some (class_of_soil (record_at l.frames f.0))
class_of l v before (move.Write f s) after = Some (class_of_write l.kind)
class_of l v before (move.Wrote f) after = Some (class_of_wrote (record_at l.frames f.0))
class_of l v before (move.Lost f) after = Some (class_of_lost (record_at l.frames f.0))

-- ---- a log

abbrev pub next_of : List Move → Option Move
next_of [] = None
next_of (m ∷ ms) = Some m

-- the class of each of the moves that come, in this state, with these marks, after this move
abbrev pub classes_from : FrameLife → MarksOf → Option Move → List Move → List (Option Class)
classes_from l v before [] = []
classes_from l v before (m ∷ ms) =
    class_of l v before m (next_of ms) ∷ classes_from (after_move l m) (marks_after v m) (Some m) ms

-- the class of each move of a log
abbrev pub classes : List Move → List (Option Class)
classes moves = classes_from unstarted no_marks None moves
