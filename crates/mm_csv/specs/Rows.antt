-- Rows of fields by the rule of csv: as RFC 4180 has it, with a line feed alone behind each row.
-- Profile, "What a log shows".
use Rattle.std.specs.Prelude.{ℕ, Bool, ◌||◌, ◌==◌, if◌then◌else◌, List, [], ◌∷◌, ◌++◌, flat_map}
use Rattle.std.specs.List.{list_any}
use Rattle.mm_types.specs.{Text}

-- a byte that a field may hold between quotes alone: a comma, a quote, a carriage return, a line
-- feed
abbrev pub is_special : ℕ → Bool
is_special c = (c == 44) || (c == 34) || (c == 13) || (c == 10)

abbrev pub is_quoted : Text → Bool
is_quoted field = list_any is_special field

-- each quote twice
abbrev pub doubled : Text → Text
doubled [] = []
doubled (c ∷ cs) = if c == 34 then 34 ∷ 34 ∷ doubled cs else c ∷ doubled cs

abbrev pub csv_field : Text → Text
csv_field field = if is_quoted field then 34 ∷ (doubled field ++ 34 ∷ []) else field

-- a field behind another
abbrev pub csv_next : Text → Text
csv_next field = 44 ∷ csv_field field

-- some fields, each behind another
abbrev pub csv_nexts : List Text → Text
csv_nexts fields = flat_map csv_next fields

-- the fields behind the first, and the end of the row
abbrev pub fields_behind : List Text → Text
fields_behind [] = 10 ∷ []
fields_behind (f ∷ fs) = csv_next f ++ fields_behind fs

abbrev pub csv_row : List Text → Text
csv_row [] = 10 ∷ []
csv_row (f ∷ fs) = csv_field f ++ fields_behind fs

abbrev pub csv_text : List (List Text) → Text
csv_text rows = flat_map csv_row rows

-- the head of a table, unless it stands
abbrev pub head_left : Bool → Text → Text
head_left begun head = if begun then [] else head
