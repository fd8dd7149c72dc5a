-- What is printed behind a keyword, word by word: a tool of proof.
use Rattle.std.specs.Prelude.{ℕ, ◌+◌, Bool, true, false, List, [], ◌∷◌}
use Rattle.mm_types.specs.{Text, decimal, byte_pairs, Event}
use Rattle.mm_types.specs.declared.events.Event.TheVariants as line
use Rattle.mm_text.specs.{hex_short}
use Rattle.mm_script.specs.declared.pieces.Piece.{Piece}
use Rattle.mm_script.specs.declared.pieces.Piece.TheVariants as piece
use Rattle.mm_script.specs.Field.{NamedOrDash}
use Rattle.mm_script.specs.Grammar.{device_field, direction_field}
use Rattle.mm_script.specs.Printed.{print}

abbrev pub text_of_piece : Piece → Text
text_of_piece (piece.Small n) = decimal n
text_of_piece (piece.Decimal n) = decimal n
text_of_piece (piece.Hex n) = hex_short n
text_of_piece (piece.Bytes bytes) = byte_pairs bytes.now
text_of_piece (piece.Name name) = name.now
text_of_piece (piece.NameOrDash name) = print (NamedOrDash name.now)
text_of_piece (piece.Device device) = print (device_field device)
text_of_piece (piece.Direction direction) = print (direction_field direction)

-- how many bytes a piece takes at most, its space among them
abbrev pub width : Piece → ℕ
width (piece.Small n) = 4
width (piece.Decimal n) = 11
width (piece.Hex n) = 11
width (piece.Bytes bytes) = 129
width (piece.Name name) = 33
width (piece.NameOrDash name) = 33
width (piece.Device device) = 7
width (piece.Direction direction) = 6

abbrev pub width_of_all : List Piece → ℕ
width_of_all [] = 0
width_of_all (p ∷ ps) = width p + width_of_all ps

-- whether a line is about memory of its own
abbrev pub is_memory : Event → Bool
is_memory (line.Alloc _ _ _ _ _) = true
is_memory (line.Free _ _ _ _) = true
is_memory (line.Protect _ _ _ _) = true
is_memory (line.Query _ _) = true
is_memory (line.Watch _ _ _ _ _) = true
is_memory (line.ResetWatch _ _ _) = true
is_memory (line.Stack _ _ _ _) = true
is_memory _ = false

-- whether a line is about sections and their views
abbrev pub is_view : Event → Bool
is_view (line.Create _ _ _ _) = true
is_view (line.CreateFile _ _ _ _) = true
is_view (line.Open _ _) = true
is_view (line.Close _ _) = true
is_view (line.Map _ _ _ _ _ _) = true
is_view (line.Unmap _ _) = true
is_view (line.Flush _ _ _) = true
is_view _ = false

-- whether a line is about an access
abbrev pub is_about_access : Event → Bool
is_about_access (line.Read _ _ _) = true
is_about_access (line.Write _ _ _) = true
is_about_access (line.Exec _ _) = true
is_about_access (line.Probe _ _) = true
is_about_access (line.Resume _) = true
is_about_access (line.Io _) = true
is_about_access (line.Begin _ _ _) = true
is_about_access _ = false
