-- Which frame a search writes out, its moves, and when it found none.
-- Profile, "Which frame moves, and when".
use Rattle.std.specs.Prelude.{◌≡◌, ◌⊎◌, ℕ, Bool, true, false, not, ◌&&◌, if◌then◌else◌, is_some, List, [], ◌∷◌, Option, Some, None}
use Rattle.mm_types.specs.{Move, Frame, Place}
use Rattle.mm_types.specs.declared.moves.Move.TheVariants as move
use Rattle.mm_move_rules.specs.Frames.{is_on}
use Rattle.mm_move_rules.specs.Life.{FrameLife}
use Rattle.mm_move_rules.specs.Legal.{is_short}
use Rattle.mm_move_rules.specs.Victims.{can_be_written}
use Rattle.mm_move_rules.specs.Order.{IsVictim}
use Rattle.mm_move_rules.specs.Walks.{Walk}

abbrev pub is_valid : FrameLife → Place → Bool
is_valid l place = is_some (l.valid place)

-- ---- which frame is written

-- the first that can be written and was not tried in this search
abbrev pub writable_in : FrameLife → List ℕ → List ℕ → Option ℕ
writable_in l tried [] = None
writable_in l tried (f ∷ fs) =
    let later = writable_in l tried fs in
    if can_be_written l f && not (is_on f tried) then Some f else later

abbrev pub next_writable : Walk → Option ℕ
next_writable w = writable_in w.life w.tried w.life.frames.modified

-- ---- a search

-- the next move ends the frame's write
abbrev pub IsWriteEnded : Frame → List Move → Type 0
IsWriteEnded f [] = ⊥
IsWriteEnded f (m ∷ ms) = (m ≡ move.Wrote f) ⊎ (m ≡ move.Lost f)

-- the moves by which a frame is emptied, while none can be taken at once: the modified frames are
-- written, each once, and then pages go, one at a time; a frame that can be written then is.
-- Requests that were in flight before are left alone.
abbrev pub SearchMove : Option Frame → List ℕ → Walk → Move → List Move → Type 0
SearchMove pin flight w (move.Write f s) rest = (is_short w.life ≡ true) ×
    (next_writable w ≡ Some f.0) × IsWriteEnded f rest
SearchMove pin flight w (move.Wrote f) rest = is_on f.0 flight ≡ false
SearchMove pin flight w (move.Lost f) rest = is_on f.0 flight ≡ false
SearchMove pin flight w (move.Unmap p) rest = (is_short w.life ≡ true) × (next_writable w ≡ None) ×
    IsVictim w.life w.ages pin p
SearchMove pin flight w _ rest = ⊥

-- a search that found no frame: each that can be written was tried, and a place is valid at most
-- for the pinned frame
pub record Starved (pin : Option Frame) (w : Walk) : Type 0 where
  pub tried : next_writable w ≡ None
  pub only : (p : Place) (f : Frame) → w.life.valid p ≡ Some f → pin ≡ Some f
