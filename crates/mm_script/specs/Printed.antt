-- The shortest line of an event.
-- Profile, "Script".
use Rattle.std.specs.Prelude.{◌≡◌, ℕ, ◌≤◌, ◌<◌, ◌^◌, List, [], ◌∷◌, length, map, Some, None, codes, IsTrue}
use Rattle.std.specs.List.{AllByRecursion}
use Rattle.mm_types.specs.{Text, decimal, byte_pairs, spaced, Event}
use Rattle.mm_text.specs.{hex_short, name_of}
use Rattle.mm_script.specs.Field.{Field, Exactly, Decimal, Hex, Bytes, Named, NamedOrDash}
use Rattle.mm_script.specs.Grammar.{fields_of, are_joined}

-- a field's shortest word, with upper-case digits
abbrev pub print : Field → Text
print (Exactly text) = text
print (Decimal least most n) = decimal n
print (Hex n) = hex_short n
print (Bytes bytes) = byte_pairs bytes
print (Named name) = name
print (NamedOrDash None) = codes "-"
print (NamedOrDash (Some name)) = name

abbrev pub spaced_words : List Text → Text
spaced_words [] = []
spaced_words (w ∷ ws) = spaced w ws

-- the shortest line of an event, without its line feed
abbrev pub printed : Event → Text
printed event = spaced_words (map print (fields_of event))

abbrev pub IsByte : ℕ → Type 0
IsByte b = b < 256

-- a field has its form and its range
abbrev pub IsInRange : Field → Type 0
IsInRange (Exactly text) = Unit {0}
IsInRange (Decimal least most n) = (least ≤ n) × (n ≤ most)
IsInRange (Hex n) = n < 2 ^ 32
IsInRange (Bytes bytes) = (1 ≤ length bytes) × (length bytes ≤ 64) × AllByRecursion IsByte bytes
IsInRange (Named name) = name_of name ≡ Some name
IsInRange (NamedOrDash None) = Unit {0}
IsInRange (NamedOrDash (Some name)) = name_of name ≡ Some name

-- An event's fields have their forms and ranges and meet the joint condition.
pub record IsWellFormed (event : Event) : Type 0 where
  pub fields : AllByRecursion IsInRange (fields_of event)
  pub joined : IsTrue (are_joined event)
