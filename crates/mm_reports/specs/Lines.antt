-- The lines of a log, as they end.
-- Profile, "What a log shows".
use Rattle.std.specs.Prelude.{ℕ, Bool, ◌==◌, if◌then◌else◌, List, [], ◌∷◌, ◌++◌, flat_map}
use Rattle.mm_types.specs.{Text, Move}
use Rattle.mm_types.specs.declared.moves.Move.TheVariants as move
use Rattle.mm_move_rules.specs.{FrameLife, after_move}

-- the state in which the line ends that began last, if any did
abbrev pub ended_line : FrameLife → List FrameLife
ended_line l = if l.line == 0 then [] else l ∷ []

-- the line that ends as this move begins the next
abbrev pub line_ended_by : FrameLife → Move → List FrameLife
line_ended_by l (move.At n k) = ended_line l
line_ended_by l _ = []

-- the state at the end of each line that ends among these moves; at the end of a whole log its
-- last line ends too
abbrev pub ends_of_lines : Bool → FrameLife → List Move → List FrameLife
ends_of_lines whole l [] = if whole then ended_line l else []
ends_of_lines whole l (m ∷ ms) = line_ended_by l m ++ ends_of_lines whole (after_move l m) ms

-- the line of this number
abbrev pub is_line : ℕ → FrameLife → Bool
is_line line l = l.line == line

-- what is said of the line of this number, if it is one of those that end so
abbrev pub said_of_line : ℕ → (FrameLife → Text) → List FrameLife → Text
said_of_line line say ends = flat_map (λ l. if is_line line l then say l else []) ends
