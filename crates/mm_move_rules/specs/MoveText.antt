-- How moves are written: a log is moves, each on a line.
-- Profile, "Logs of moves".
use Rattle.std.specs.Prelude.{◌≡◌, ℕ, ◌^◌, ◌<◌, List, [], ◌∷◌, ◌++◌, codes, flat_map, Option, Some, None}
use Rattle.mm_types.specs.{Text, decimal, Block, Key, Place, LineKind, Stored, Move}
use Rattle.mm_types.specs.declared.numbers.Key.TheVariants.{Private, Shared}
use Rattle.mm_types.specs.declared.moves.LineKind.TheVariants as kind
use Rattle.mm_types.specs.declared.moves.Stored.TheVariants as stored
use Rattle.mm_types.specs.declared.moves.Move.TheVariants as move

-- Each text is written in front of what comes after it.

-- a word's text, one space, and a number
abbrev pub numbered : Text → ℕ → Text → Text
numbered word n behind = word ++ (decimal n ++ behind)

-- `<pid>.<page>`
abbrev pub place_onto : Place → Text → Text
place_onto place behind = numbered [] place.pid.0 (numbered (codes ".") place.vpn.0 behind)

-- `p<pid>.<page>` or `s<area>.<index>`
abbrev pub key_onto : Key → Text → Text
key_onto (Private pid vpn) behind = numbered (codes "p") pid.0 (numbered (codes ".") vpn.0 behind)
key_onto (Shared area index) behind =
    numbered (codes "s") area.0 (numbered (codes ".") index behind)

abbrev pub kind_onto : LineKind → Text → Text
kind_onto (kind.Machine frames slots depth blocks) behind =
    numbered (codes "machine ") frames
    (numbered (codes " ") slots
    (numbered (codes " ") depth (numbered (codes " ") blocks behind)))
kind_onto (kind.Process pid min max) behind =
    numbered (codes "process ") pid.0 (numbered (codes " ") min (numbered (codes " ") max behind))
kind_onto (kind.Unbind pid) behind = numbered (codes "unbind ") pid.0 behind
kind_onto (kind.Access pid) behind = numbered (codes "access ") pid.0 behind
kind_onto (kind.Thread pid) behind = numbered (codes "thread ") pid.0 behind
kind_onto (kind.Trim pid) behind = numbered (codes "trim ") pid.0 behind
kind_onto kind.Writer behind = codes "writer" ++ behind
kind_onto kind.Zeroer behind = codes "zeroer" ++ behind
kind_onto kind.Io behind = codes "io" ++ behind
kind_onto kind.Call behind = codes "call" ++ behind
kind_onto (kind.Grow count) behind = numbered (codes "grow ") count behind

abbrev pub stored_onto : Stored → Text → Text
stored_onto (stored.Slot s) behind = numbered (codes " slot ") s.0 behind
stored_onto (stored.Block b) behind = numbered (codes " block ") b.0 behind

abbrev pub home_onto : Option Block → Text → Text
home_onto None behind = codes " zero" ++ behind
home_onto (Some b) behind = numbered (codes " block ") b.0 behind

-- the words of a move, with one space between each and the next
abbrev pub move_onto : Move → Text → Text
move_onto (move.At n k) behind = numbered (codes "at ") n (codes " " ++ kind_onto k behind)
move_onto (move.Add k b) behind = codes "add " ++ key_onto k (home_onto b behind)
move_onto (move.Drop k) behind = codes "drop " ++ key_onto k behind
move_onto (move.Clear f) behind = numbered (codes "clear ") f.0 behind
move_onto (move.Steal f) behind = numbered (codes "steal ") f.0 behind
move_onto (move.Give f k) behind = numbered (codes "give ") f.0 (codes " " ++ key_onto k behind)
move_onto (move.Read f k) behind = numbered (codes "read ") f.0 (codes " " ++ key_onto k behind)
move_onto (move.Got f) behind = numbered (codes "got ") f.0 behind
move_onto (move.Bad f) behind = numbered (codes "bad ") f.0 behind
move_onto (move.Map f place) behind =
    numbered (codes "map ") f.0 (codes " " ++ place_onto place behind)
move_onto (move.Unmap place) behind = codes "unmap " ++ place_onto place behind
move_onto (move.Soil f) behind = numbered (codes "soil ") f.0 behind
move_onto (move.Write f s) behind = numbered (codes "write ") f.0 (stored_onto s behind)
move_onto (move.Wrote f) behind = numbered (codes "wrote ") f.0 behind
move_onto (move.Lost f) behind = numbered (codes "lost ") f.0 behind

-- a move without its line feed
abbrev pub move_text : Move → Text
move_text m = move_onto m []

-- a move's line
abbrev pub spelling_of_move : Move → Text
spelling_of_move m = move_onto m (0x0A ∷ [])

-- the lines of some moves
abbrev pub spelled_moves : List Move → Text
spelled_moves moves = flat_map spelling_of_move moves

-- ---- the numbers of a move are those of its types

abbrev pub IsKey : Key → Type 0
IsKey (Private pid vpn) = (pid.0 < 2 ^ 8) × (vpn.0 < 2 ^ 32)
IsKey (Shared area index) = (area.0 < 2 ^ 32) × (index < 2 ^ 32)

abbrev pub IsPlace : Place → Type 0
IsPlace place = (place.pid.0 < 2 ^ 8) × (place.vpn.0 < 2 ^ 32)

abbrev pub IsKind : LineKind → Type 0
IsKind (kind.Machine frames slots depth blocks) = (frames < 2 ^ 32) × (slots < 2 ^ 32) ×
    (depth < 2 ^ 32) × (blocks < 2 ^ 32)
IsKind (kind.Process pid min max) = (pid.0 < 2 ^ 8) × (min < 2 ^ 32) × (max < 2 ^ 32)
IsKind (kind.Unbind pid) = pid.0 < 2 ^ 8
IsKind (kind.Access pid) = pid.0 < 2 ^ 8
IsKind (kind.Thread pid) = pid.0 < 2 ^ 8
IsKind (kind.Trim pid) = pid.0 < 2 ^ 8
IsKind kind.Writer = Unit {0}
IsKind kind.Zeroer = Unit {0}
IsKind kind.Io = Unit {0}
IsKind kind.Call = Unit {0}
IsKind (kind.Grow count) = count < 2 ^ 32

abbrev pub IsStored : Stored → Type 0
IsStored (stored.Slot s) = s.0 < 2 ^ 32
IsStored (stored.Block b) = b.0 < 2 ^ 32

abbrev pub IsBlock : Option Block → Type 0
IsBlock None = Unit {0}
IsBlock (Some b) = b.0 < 2 ^ 32

abbrev pub IsMove : Move → Type 0
IsMove (move.At n k) = (n < 2 ^ 32) × IsKind k
IsMove (move.Add k b) = IsKey k × IsBlock b
IsMove (move.Drop k) = IsKey k
IsMove (move.Clear f) = f.0 < 2 ^ 32
IsMove (move.Steal f) = f.0 < 2 ^ 32
IsMove (move.Give f k) = (f.0 < 2 ^ 32) × IsKey k
IsMove (move.Read f k) = (f.0 < 2 ^ 32) × IsKey k
IsMove (move.Got f) = f.0 < 2 ^ 32
IsMove (move.Bad f) = f.0 < 2 ^ 32
IsMove (move.Map f place) = (f.0 < 2 ^ 32) × IsPlace place
IsMove (move.Unmap place) = IsPlace place
IsMove (move.Soil f) = f.0 < 2 ^ 32
IsMove (move.Write f s) = (f.0 < 2 ^ 32) × IsStored s
IsMove (move.Wrote f) = f.0 < 2 ^ 32
IsMove (move.Lost f) = f.0 < 2 ^ 32

abbrev pub AreMoves : List Move → Type 0
AreMoves [] = Unit {0}
AreMoves (m ∷ ms) = IsMove m × AreMoves ms

-- these bytes are the lines of these moves
pub record IsSpelled (moves : List Move) (bytes : Text) : Type 0 where
  pub in_range : AreMoves moves
  pub text : bytes ≡ spelled_moves moves
