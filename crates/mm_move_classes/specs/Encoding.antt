-- How the moves of a log are written with their classes, in bytes that stand safely in a page of
-- HTML.
use Rattle.std.specs.Prelude.{ℕ, zero, suc, ◌+◌, ◌*◌, ◌/◌, ◌%◌, nat_lt, if◌then◌else◌, List, []}
use Rattle.std.specs.Prelude.{◌∷◌, ◌++◌, flat_map, Option, Some, None}
use Rattle.mm_types.specs.{Text, Counts, Block, Key, LineKind, Stored, Move}
use Rattle.mm_types.specs.declared.numbers.Key.TheVariants.{Private, Shared}
use Rattle.mm_types.specs.declared.moves.LineKind.TheVariants as kind
use Rattle.mm_types.specs.declared.moves.Stored.TheVariants as stored
use Rattle.mm_types.specs.declared.moves.Move.TheVariants as move
use Rattle.mm_move_classes.specs.declared.classes.Class.{Class}
use Rattle.mm_move_classes.specs.Words.{code_of}

-- ---- numbers

-- the digits of n to the base 32, the lowest first, of which there are at most `count`: each is a
-- byte from 63 on, and one after which another follows a byte from 95 on
unfoldable pub digits_of : ℕ → ℕ → Text
digits_of zero n = []
digits_of (suc count) n =
    let more = (95 + n % 32) ∷ digits_of count (n / 32) in
    if nat_lt n 32 then (63 + n) ∷ [] else more

-- a number below 2 ^ 65
abbrev pub number_text : ℕ → Text
number_text n = digits_of 13 n

abbrev pub numbers_text : List ℕ → Text
numbers_text ns = flat_map number_text ns

-- ---- the numbers of a move

abbrev pub key_numbers : Key → List ℕ
key_numbers (Private pid vpn) = (2 * pid.0) ∷ vpn.0 ∷ []
key_numbers (Shared area index) = (2 * area.0 + 1) ∷ index ∷ []

abbrev pub block_numbers : Option Block → List ℕ
block_numbers None = []
block_numbers (Some b) = b.0 ∷ []

abbrev pub stored_number : Stored → ℕ
stored_number (stored.Slot s) = 2 * s.0
stored_number (stored.Block b) = 2 * b.0 + 1

abbrev pub kind_numbers : LineKind → List ℕ
kind_numbers (kind.Machine frames slots depth blocks) = frames ∷ slots ∷ depth ∷ blocks ∷ []
kind_numbers (kind.Process pid min max) = pid.0 ∷ min ∷ max ∷ []
kind_numbers (kind.Unbind pid) = pid.0 ∷ []
kind_numbers (kind.Access pid) = pid.0 ∷ []
kind_numbers (kind.Thread pid) = pid.0 ∷ []
kind_numbers (kind.Trim pid) = pid.0 ∷ []
kind_numbers kind.Writer = []
kind_numbers kind.Zeroer = []
kind_numbers kind.Io = []
kind_numbers kind.Call = []
kind_numbers (kind.Grow count) = count ∷ []

-- the number of a line is its place, and is not written
abbrev pub move_numbers : Move → List ℕ
move_numbers (move.At n k) = kind_numbers k
move_numbers (move.Add k b) = key_numbers k ++ block_numbers b
move_numbers (move.Drop k) = key_numbers k
move_numbers (move.Clear f) = f.0 ∷ []
move_numbers (move.Steal f) = f.0 ∷ []
move_numbers (move.Give f k) = f.0 ∷ key_numbers k
move_numbers (move.Read f k) = f.0 ∷ key_numbers k
move_numbers (move.Got f) = f.0 ∷ []
move_numbers (move.Bad f) = f.0 ∷ []
move_numbers (move.Map f place) = f.0 ∷ place.pid.0 ∷ place.vpn.0 ∷ []
move_numbers (move.Unmap place) = place.pid.0 ∷ place.vpn.0 ∷ []
move_numbers (move.Soil f) = f.0 ∷ []
move_numbers (move.Write f s) = f.0 ∷ stored_number s ∷ []
move_numbers (move.Wrote f) = f.0 ∷ []
move_numbers (move.Lost f) = f.0 ∷ []

-- ---- a move, and the counts of a state

abbrev pub kind_code : LineKind → ℕ
kind_code (kind.Machine frames slots depth blocks) = 0x4D  -- M
kind_code (kind.Process pid min max) = 0x50  -- P
kind_code (kind.Unbind pid) = 0x75  -- u
kind_code (kind.Access pid) = 0x61  -- a
kind_code (kind.Thread pid) = 0x74  -- t
kind_code (kind.Trim pid) = 0x72  -- r
kind_code kind.Writer = 0x77  -- w
kind_code kind.Zeroer = 0x7A  -- z
kind_code kind.Io = 0x69  -- i
kind_code kind.Call = 0x63  -- c
kind_code (kind.Grow count) = 0x4E  -- N

-- a line feed and the kind's code begin a line, the class's code any other move
abbrev pub head_text : Option Class → Move → Text
head_text c (move.At n k) = 10 ∷ kind_code k ∷ []
head_text (Some c) m = code_of c ∷ []
head_text None m = []

abbrev pub move_data : Option Class → Move → Text
move_data c m = head_text c m ++ numbers_text (move_numbers m)

-- the eight counts
abbrev pub numbers_of : Counts → List ℕ
numbers_of c =
    c.zeroed ∷ c.free ∷ c.standby ∷ c.modified ∷ c.active ∷ c.transition ∷ c.free_slots ∷ c.requests
    ∷ []

-- `=` and the eight counts
abbrev pub mark_data : Counts → Text
mark_data c = 0x3D ∷ numbers_text (numbers_of c)
