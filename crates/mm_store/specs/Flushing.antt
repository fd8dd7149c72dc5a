-- The moves of a flush: of the page of a key, and of pages one after another.
-- Profile, "Which frame moves, and when".
use Rattle.std.specs.Prelude.{◌≡◌, ◌⊎◌, Bool, true, false, List, [], ◌∷◌, ◌++◌}
use Rattle.mm_types.specs.{Held, Record, Request, Move, Stored, Frame, Key}
use Rattle.mm_types.specs.declared.frames.Held.TheVariants as held
use Rattle.mm_types.specs.declared.frames.Request.TheVariants as request
use Rattle.mm_types.specs.declared.moves.Move.TheVariants as move
use Rattle.mm_move_rules.specs.{record_at, FrameLife, after_move, is_lost_move}

-- ---- one page

abbrev pub IsEndOf : Frame → Move → Type 0
IsEndOf f m = (m ≡ move.Wrote f) ⊎ (m ≡ move.Lost f)

abbrev pub IsWriteOf : Frame → Move → Type 0
IsWriteOf f m = (s : Stored) × (m ≡ move.Write f s)

-- a page is written now, whatever comes of it
abbrev pub IsWrittenNow : Frame → List Move → Type 0
IsWrittenNow f [] = ⊥
IsWrittenNow f (x ∷ []) = ⊥
IsWrittenNow f (x ∷ y ∷ []) = IsWriteOf f x × IsEndOf f y
IsWrittenNow f (x ∷ y ∷ z ∷ ms) = ⊥

-- where it is changed
abbrev pub IsWrittenIf : Bool → Frame → List Move → Type 0
IsWrittenIf true f ms = IsWrittenNow f ms
IsWrittenIf false f ms = ms ≡ []

-- its write that is in flight is ended; where that was made and the page was written to meanwhile,
-- it is written now
abbrev pub IsEndedFirst : Bool → Frame → List Move → Type 0
IsEndedFirst again f [] = ⊥
IsEndedFirst again f (x ∷ ms) = ((x ≡ move.Wrote f) × IsWrittenIf again f ms) ⊎
    ((x ≡ move.Lost f) × (ms ≡ []))

-- of a page in a frame, by what is kept of the frame
abbrev pub FlushesBy : Request → Bool → Frame → List Move → Type 0
FlushesBy request.None changed f ms = IsWrittenIf changed f ms
FlushesBy request.Read changed f ms = IsWrittenIf changed f ms
FlushesBy request.Write changed f ms = IsEndedFirst false f ms
FlushesBy request.WriteAgain changed f ms = IsEndedFirst true f ms

abbrev pub FlushMoves : Record → Frame → List Move → Type 0
FlushMoves r f ms = FlushesBy r.request r.changed f ms

abbrev pub FlushedAt : FrameLife → Held → List Move → Type 0
FlushedAt l (held.Frame f) ms = FlushMoves (record_at l.frames f.0) f ms
FlushedAt l _ ms = ms ≡ []

-- the write failed: only the last move can tell it
abbrev pub ends_lost : List Move → Bool
ends_lost [] = false
ends_lost (m ∷ []) = is_lost_move m
ends_lost (m ∷ n ∷ ms) = ends_lost (n ∷ ms)

-- ---- pages one after another

-- the state of the replay after moves
abbrev pub life_through : FrameLife → List Move → FrameLife
life_through l [] = l
life_through l (m ∷ ms) = life_through (after_move l m) ms

-- the pages of these keys, one after another, up to the first whose write fails
abbrev pub Flushing : FrameLife → List Key → List Move → Type 0
Flushing l [] ms = ms ≡ []
Flushing l (k ∷ ks) ms =
    (front : List Move) ×
    ((behind : List Move) × ((ms ≡ front ++ behind) × FlushedAt l (l.stands k) front
    × (ends_lost front ≡ true → behind ≡ []) ×
    (ends_lost front ≡ false → Flushing (life_through l front) ks behind)))
