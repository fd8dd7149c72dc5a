-- Worked logs.
use Rattle.std.specs.Prelude.{ℕ, List, [], ◌∷◌, ◌++◌, None}
use Rattle.mm_types.specs.{Pid, Frame, Slot, Key, Place, Move}
use Rattle.mm_types.specs.declared.numbers.Key.TheVariants.{Private}
use Rattle.mm_types.specs.declared.moves.LineKind.TheVariants as kind
use Rattle.mm_types.specs.declared.moves.Stored.TheVariants as stored
use Rattle.mm_types.specs.declared.moves.Move.TheVariants as move

abbrev pub pid : ℕ → Pid
pid p = record { 0 = p }

abbrev pub frame : ℕ → Frame
frame f = record { 0 = f }

abbrev pub slot : ℕ → Slot
slot s = record { 0 = s }

abbrev pub private : ℕ → ℕ → Key
private p v = Private (pid p) (record { 0 = v })

abbrev pub place : ℕ → ℕ → Place
place p v = record { pid = pid p; vpn = record { 0 = v } }

-- the first lines of a page rewritten while its write is in flight, with the frame that is cleared
abbrev pub rewritten_head : ℕ → List Move
rewritten_head cleared =
    move.At 1 (kind.Machine 8 8 1 0)
    ∷ move.At 2 (kind.Process (pid 1) 0 8)
    ∷ move.At 3 kind.Call
    ∷ move.Add (private 1 16) None
    ∷ move.At 4 (kind.Access (pid 1))
    ∷ move.Clear (frame cleared)
    ∷ []

abbrev pub rewritten_tail : List Move
rewritten_tail =
    move.Give (frame 0) (private 1 16)
    ∷ move.Map (frame 0) (place 1 16)
    ∷ move.At 5 (kind.Trim (pid 1))
    ∷ move.Unmap (place 1 16)
    ∷ move.At 6 kind.Writer
    ∷ move.Write (frame 0) (stored.Slot (slot 0))
    ∷ move.At 7 kind.Call
    ∷ move.At 8 (kind.Access (pid 1))
    ∷ move.Map (frame 0) (place 1 16)
    ∷ move.Soil (frame 0)
    ∷ move.At 9 kind.Call
    ∷ move.At 10 (kind.Trim (pid 1))
    ∷ move.Unmap (place 1 16)
    ∷ move.At 11 kind.Io
    ∷ move.Wrote (frame 0)
    ∷ move.At 12 kind.Call
    ∷ move.At 13 (kind.Access (pid 1))
    ∷ move.Map (frame 0) (place 1 16)
    ∷ []

-- a page rewritten while its write is in flight
abbrev pub rewritten_log : List Move
rewritten_log = rewritten_head 0 ++ rewritten_tail

-- the smallest working set: its only page goes for the next
abbrev pub smallest_set_log : List Move
smallest_set_log =
    move.At 1 (kind.Machine 6 0 1 0)
    ∷ move.At 2 (kind.Process (pid 1) 0 1)
    ∷ move.At 3 kind.Call
    ∷ move.Add (private 1 16) None
    ∷ move.Add (private 1 17) None
    ∷ move.At 4 (kind.Access (pid 1))
    ∷ move.Clear (frame 0)
    ∷ move.Give (frame 0) (private 1 16)
    ∷ move.Map (frame 0) (place 1 16)
    ∷ move.At 5 (kind.Access (pid 1))
    ∷ move.Clear (frame 1)
    ∷ move.Give (frame 1) (private 1 17)
    ∷ move.Unmap (place 1 16)
    ∷ move.Map (frame 1) (place 1 17)
    ∷ []
