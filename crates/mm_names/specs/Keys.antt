-- The names that a script gave, as they are kept.
use Rattle.std.specs.Prelude.{ℕ, Bool, bytes_eq, List, [], Option, option_and_then}
use Rattle.std.specs.Map.{lookup}
use Rattle.indexmap.specs.IndexMap.{insert_entry}
use Rattle.mm_types.specs.{Text}
use Rattle.mm_text.specs.{name_of}
use Rattle.mm_names.specs.declared.names.Given.{Given}
use Rattle.mm_names.specs.declared.names.NameKey.{NameKey}

-- what the script gave to names, each the last time
abbrev pub NamesOf : Type 0
NamesOf = List (NameKey × ℕ)

abbrev pub no_names : NamesOf
no_names = []

abbrev pub name_key : Text → NameKey
name_key name = record { name = name }

abbrev pub same_name : NameKey → NameKey → Bool
same_name a b = bytes_eq a.name b.name

abbrev pub with_given : NamesOf → Given → NamesOf
with_given names g = insert_entry same_name names (name_key g.name) g.value

abbrev pub value_named : NamesOf → Text → Option ℕ
value_named names name = lookup (same_name (name_key name)) names

-- what the script gave a word, where it has the form of a name
abbrev pub given_value : NamesOf → Text → Option ℕ
given_value names word = option_and_then (value_named names) (name_of word)
