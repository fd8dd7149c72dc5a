-- Logs in which one line begins more requests than the depth of the machine.
-- Profile, "Logs of moves".
use Rattle.std.specs.Prelude.{ℕ, ◌+◌, List, [], ◌∷◌, ◌++◌, Some}
use Rattle.mm_types.specs.{Block, Key, Move}
use Rattle.mm_types.specs.declared.numbers.Key.TheVariants.{Shared}
use Rattle.mm_types.specs.declared.moves.LineKind.TheVariants as kind
use Rattle.mm_types.specs.declared.moves.Stored.TheVariants as stored
use Rattle.mm_types.specs.declared.moves.Move.TheVariants as move
use Rattle.mm_move_rules.specs.{pid, frame, place}

abbrev pub block : ℕ → Block
block b = record { 0 = b }

abbrev pub in_file : ℕ → Key
in_file i = Shared (record { 0 = 0 }) i

-- a machine of depth 1, and a file of three pages
abbrev pub file_of_three : List Move
file_of_three =
    move.At 1 (kind.Machine 8 8 1 4)
    ∷ move.At 2 (kind.Process (pid 1) 0 8)
    ∷ move.At 3 kind.Call
    ∷ move.Add (in_file 0) (Some (block 0))
    ∷ move.Add (in_file 1) (Some (block 1))
    ∷ move.Add (in_file 2) (Some (block 2))
    ∷ move.At 4 (kind.Access (pid 1))
    ∷ []

-- one access begins three reads
abbrev pub three_reads : List Move
three_reads = file_of_three ++ move.Read (frame 0) (in_file 0) ∷ move.Read (frame 1) (in_file 1) ∷
    move.Read (frame 2) (in_file 2) ∷ []

-- a page is read, becomes valid and is changed
abbrev pub changed_page : ℕ → List Move
changed_page i = move.Read (frame i) (in_file i) ∷ move.Got (frame i) ∷
    move.Map (frame i) (place 1 (16 + i)) ∷ move.Soil (frame i) ∷ []

-- one call, as a flush, begins three writes
abbrev pub three_writes : List Move
three_writes =
    file_of_three ++ changed_page 0 ++ changed_page 1 ++ changed_page 2
    ++ move.At 5 kind.Call
    ∷ move.Write (frame 0) (stored.Block (block 0))
    ∷ move.Write (frame 1) (stored.Block (block 1))
    ∷ move.Write (frame 2) (stored.Block (block 2))
    ∷ []
