-- What a page frame is, in words.
use Rattle.std.specs.Prelude.{ℕ, Bool, true, false, nat_lt, if◌then◌else◌, is_some, ◌++◌, codes}
use Rattle.std.specs.Prelude.{Option, Some, None}
use Rattle.mm_types.specs.{Text, decimal, Key, Record, Backing, Request}
use Rattle.mm_types.specs.declared.frames.Backing.TheVariants as backing
use Rattle.mm_types.specs.declared.frames.Request.TheVariants as request
use Rattle.mm_move_rules.specs.{FrameTable, record_at, is_on, is_read, has_request, FrameLife}
use Rattle.mm_sentences.specs.declared.states.FrameState.{FrameState}
use Rattle.mm_sentences.specs.declared.states.FrameState.TheVariants as state
use Rattle.mm_sentences.specs.Words.{key_text}

-- ---- its state

-- the list of a frame that is not valid anywhere and has no request: with a page it is on modified
-- or standby, without one on zeroed or free
abbrev pub list_of : FrameTable → ℕ → Record → FrameState
list_of d f r =
    if is_some r.owner then (if is_on f d.modified then state.Modified else state.Standby)
    else (if is_on f d.zeroed then state.Zeroed else state.Free)

abbrev pub state_by : FrameTable → ℕ → Record → FrameState
state_by d f r =
    if nat_lt 0 r.shares then state.Active
    else if is_read r.request then state.BeingRead
    else if has_request r.request then state.BeingWritten
    else list_of d f r

abbrev pub state_of : FrameLife → ℕ → FrameState
state_of l f = state_by l.frames f (record_at l.frames f)

abbrev pub state_text : FrameState → Text
state_text state.Active = codes "active"
state_text state.BeingRead = codes "being read"
state_text state.BeingWritten = codes "being written"
state_text state.Zeroed = codes "zeroed"
state_text state.Free = codes "free"
state_text state.Standby = codes "standby"
state_text state.Modified = codes "modified"

-- ---- its row

abbrev pub owner_text : Option Key → Text
owner_text None = codes "no page"
owner_text (Some k) = key_text k

abbrev pub changed_text : Bool → Text
changed_text true = codes "changed"
changed_text false = codes "not changed"

abbrev pub copy_text : Backing → Text
copy_text backing.None = codes "no copy"
copy_text (backing.Slot s) = codes "slot " ++ decimal s.0
copy_text (backing.Block b) = codes "block " ++ decimal b.0

abbrev pub request_text : Request → Text
request_text request.None = codes "no I/O"
request_text request.Read = codes "being read"
request_text request.Write = codes "being written"
request_text request.WriteAgain = codes "being written, changed since"

abbrev pub listed_text : Text → Text
listed_text text = text ++ codes ", "

-- the state, the page, whether it is changed, its copy on a device, the places where it is valid,
-- and its request
abbrev pub frame_row_text : FrameState → Record → Text
frame_row_text s r =
    listed_text (state_text s) ++ (listed_text (owner_text r.owner)
    ++ (listed_text (changed_text r.changed) ++ (listed_text (copy_text r.backing)
    ++ (listed_text (decimal r.shares ++ codes " places") ++ request_text r.request))))

-- `active, p1.17, changed, no copy, 1 places, no I/O`
abbrev pub frame_row : FrameLife → ℕ → Text
frame_row l f = frame_row_text (state_of l f) (record_at l.frames f)
