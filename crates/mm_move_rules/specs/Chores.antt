-- The moves of housekeeping: trimming, clearing, writing out, the ends of requests.
-- Profile, "Which frame moves, and when".
use Rattle.std.specs.Prelude.{◌≡◌, ℕ, ◌+◌, ◌-◌, Bool, true, false, ◌&&◌, ◌==◌, nat_lt, if◌then◌else◌, List, [], ◌∷◌, take, map, Option, Some, None}
use Rattle.mm_types.specs.{Backing, Record, Move, Stored, Frame, Pid, Place}
use Rattle.mm_types.specs.declared.frames.Backing.TheVariants as backing
use Rattle.mm_types.specs.declared.moves.Move.TheVariants as move
use Rattle.mm_types.specs.declared.moves.Stored.TheVariants as stored
use Rattle.mm_move_rules.specs.declared.sets.ResidentSet.{ResidentSet}
use Rattle.mm_move_rules.specs.Frames.{record_at, is_read}
use Rattle.mm_move_rules.specs.Life.{FrameLife, set_of}
use Rattle.mm_move_rules.specs.Legal.{is_above_min, has_depth}
use Rattle.mm_move_rules.specs.Effect.{after_move}
use Rattle.mm_move_rules.specs.Victims.{aged, can_be_written}
use Rattle.mm_move_rules.specs.Walks.{Walk}
use Rattle.mm_move_rules.specs.Order.{IsOldest}
use Rattle.mm_move_rules.specs.Searches.{is_valid}

-- ---- `trim`, `age`, `zeroer`

abbrev pub TrimMove : Pid → Walk → Move → List Move → Type 0
TrimMove pid w (move.Unmap p) rest = (p.pid ≡ pid) × (is_above_min (set_of w.life pid.0) ≡ true) ×
    IsOldest w.life w.ages None p
TrimMove pid w _ rest = ⊥

abbrev pub spare_of : Option ResidentSet → ℕ
spare_of None = 0
spare_of (Some s) = s.resident - s.min

-- each valid place of the process is one older
abbrev pub all_aged : Pid → FrameLife → (Place → ℕ) → Place → ℕ
all_aged pid l ages p = if (p.pid.0 == pid.0) && is_valid l p then aged (ages p) else ages p

abbrev pub frame_of : ℕ → Frame
frame_of f = record { 0 = f }

-- the first n free frames are cleared, in order
abbrev pub clearings : ℕ → FrameLife → List Move
clearings n l = map (λ f. move.Clear (frame_of f)) (take n l.frames.free)

-- ---- `writer`

abbrev pub lowest_free : ℕ → List Bool → ℕ
lowest_free n [] = n
lowest_free n (free ∷ rest) = if free then n else lowest_free (n + 1) rest

-- a frame is written to its block, or to the lowest free slot
abbrev pub target : Backing → FrameLife → Stored
target backing.None l = stored.Slot (record { 0 = lowest_free 0 l.free_slots })
target (backing.Slot s) l = stored.Slot (record { 0 = lowest_free 0 l.free_slots })
target (backing.Block b) l = stored.Block b

-- through the modified list, from the front: a write of each page that can be written, until n were
-- begun or as many as the depth are in flight
abbrev pub writes_begun : ℕ → FrameLife → List ℕ → List Move
writes_begun n l [] = []
writes_begun n l (f ∷ fs) =
    let m = move.Write (frame_of f) (target (record_at l.frames f).backing l) in
    let more = m ∷ writes_begun (n - 1) (after_move l m) fs in
    let passed = writes_begun n l fs in
    if nat_lt 0 n && has_depth l then (if can_be_written l f then more else passed) else []

-- ---- `io`

-- the request of a frame ends, well or not
abbrev pub ending : Record → Frame → Bool → Move
ending r f true = if is_read r.request then move.Got f else move.Wrote f
ending r f false = if is_read r.request then move.Bad f else move.Lost f
