-- Worked logs of searches.
-- Profile, "Which frame moves, and when".
use Rattle.std.specs.Prelude.{ℕ, zero, suc, ◌+◌, List, [], ◌∷◌, ◌++◌, Some, None}
use Rattle.mm_types.specs.{Key, Place, Move}
use Rattle.mm_types.specs.declared.numbers.Key.TheVariants.{Shared}
use Rattle.mm_types.specs.declared.moves.LineKind.TheVariants as kind
use Rattle.mm_types.specs.declared.moves.Stored.TheVariants as stored
use Rattle.mm_types.specs.declared.moves.Move.TheVariants as move
use Rattle.mm_move_rules.specs.{pid, frame, slot, private, place}
use Rattle.mm_frame_laws.specs.Searches.{failed_write}

-- ---- eight frames that hold eight valid pages

abbrev pub pages_added : ℕ → ℕ → List Move
pages_added first zero = []
pages_added first (suc n) = move.Add (private 1 first) None ∷ pages_added (first + 1) n

abbrev pub pages_mapped : ℕ → ℕ → ℕ → List Move
pages_mapped f v zero = []
pages_mapped f v (suc n) =
    move.Clear (frame f) ∷ move.Give (frame f) (private 1 v) ∷ move.Map (frame f) (place 1 v) ∷
    pages_mapped (f + 1) (v + 1) n

abbrev pub eight_pages : List Move
eight_pages =
    (move.At 1 (kind.Machine 8 64 1 0) ∷ move.At 2 (kind.Process (pid 1) 0 32) ∷
    move.At 3 kind.Call ∷ [])
    ++ (pages_added 16 60 ++ (move.At 4 (kind.Access (pid 1)) ∷ pages_mapped 0 16 8))

abbrev pub eight_places : List Place
eight_places = place 1 23 ∷ place 1 18 ∷ place 1 16 ∷ place 1 20 ∷ place 1 17 ∷ place 1 22 ∷
    place 1 19 ∷ place 1 21 ∷ []

abbrev pub first_emptied : List Move
first_emptied = move.Unmap (place 1 16) ∷ move.Write (frame 0) (stored.Slot (slot 0)) ∷
    move.Wrote (frame 0) ∷ []

abbrev pub second_emptied : List Move
second_emptied = move.Unmap (place 1 17) ∷ move.Write (frame 1) (stored.Slot (slot 0)) ∷
    move.Wrote (frame 1) ∷ []

-- a write that fails, and the next page
abbrev pub first_fails : List Move
first_fails = move.Unmap (place 1 16) ∷
    (failed_write (frame 0) (stored.Slot (slot 0)) ++ second_emptied)

-- ---- a request more than the depth

abbrev pub worked_page : Key
worked_page = Shared (record { 0 = 0 }) 0

-- depth 1 and two requests, one of them the line's own: nothing can be emptied but the pinned frame
-- 1
abbrev pub one_too_many : List Move
one_too_many =
    move.At 1 (kind.Machine 6 2 1 1)
    ∷ move.At 2 (kind.Process (pid 1) 0 8)
    ∷ move.At 3 kind.Call
    ∷ move.Add (private 1 16) None
    ∷ move.Add worked_page (Some (record { 0 = 0 }))
    ∷ move.At 4 (kind.Access (pid 1))
    ∷ move.Clear (frame 0)
    ∷ move.Give (frame 0) (private 1 16)
    ∷ move.At 5 kind.Writer
    ∷ move.Write (frame 0) (stored.Slot (slot 0))
    ∷ move.At 6 (kind.Unbind (pid 1))
    ∷ move.Drop (private 1 16)
    ∷ move.At 7 kind.Call
    ∷ (pages_added 17 4 ++ (
    move.At 8 (kind.Access (pid 1))
    ∷ move.Read (frame 1) worked_page
    ∷ move.Got (frame 1)
    ∷ move.Map (frame 1) (place 1 32)
    ∷ move.Clear (frame 2)
    ∷ move.Give (frame 2) (private 1 17)
    ∷ move.Clear (frame 3)
    ∷ move.Give (frame 3) (private 1 18)
    ∷ move.Clear (frame 4)
    ∷ move.Give (frame 4) (private 1 19)
    ∷ move.Clear (frame 5)
    ∷ move.Give (frame 5) (private 1 20)
    ∷ move.Write (frame 2) (stored.Slot (slot 1))
    ∷ []))
