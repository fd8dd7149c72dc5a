-- What a written line means.
-- docs/WRITTEN.md
use Rattle.std.specs.Prelude.{ℕ, ◌+◌, ◌==◌, ◌&&◌, nat_le, bytes_eq, is_some, if◌then◌else◌, List, [], ◌∷◌, ◌++◌, length, Option, Some, None, Result, Ok, Err, option_map, option_and_then, codes}
use Rattle.mm_types.specs.{Text, Event}
use Rattle.mm_text.specs.{name_of, words_of, hex_short}
use Rattle.mm_text.specs.Word.{Word}
use Rattle.mm_script.specs.{LineFault, without_return, IsWellFormed, parse}
use Rattle.mm_names.specs.declared.names.Given.{Given}
use Rattle.mm_names.specs.declared.words.Verb.{Verb}
use Rattle.mm_names.specs.declared.words.Kind.{Kind}
use Rattle.mm_names.specs.declared.words.Kind.TheVariants as kind
use Rattle.mm_names.specs.declared.meanings.Meaning.{Meaning}
use Rattle.mm_names.specs.declared.meanings.Meaning.TheVariants as meaning
use Rattle.mm_names.specs.Tidy.{tidy_of}
use Rattle.mm_names.specs.Keys.{NamesOf}
use Rattle.mm_names.specs.Numbers.{value_of, windows_value}
use Rattle.mm_names.specs.Words.{lowered, keyword_for, verb_of, kind_at, next_number, verb_after}

-- what stood in quotes, or the word
abbrev pub unquoted : Text → Text
unquoted [] = []
unquoted (c ∷ cs) = if c == 0x22 then cs else c ∷ cs

-- the plain word for a written one of this kind
abbrev pub plain_word : NamesOf → Kind → Text → Option Text
plain_word names kind.Number word = option_map hex_short (value_of names word)
plain_word names kind.Name word = Some word
plain_word names kind.Keyword word = Some (lowered word)
plain_word names kind.Bytes word = Some (unquoted word)

-- a space and a plain word behind the others
abbrev pub with_word : Text → Option Text → Option Text
with_word line word = option_map (λ w. line ++ 0x20 ∷ w) word

-- the plain line of words, of which the first has this number, behind a line
abbrev pub plain_from : NamesOf → Verb → ℕ → Text → List Word → Option Text
plain_from names v n line [] = Some line
plain_from names v n line (w ∷ ws) =
    option_and_then (λ l. plain_from names (verb_after v n w.text) (next_number n) l ws)
    (with_word line (plain_word names (kind_at v n) w.text))

abbrev pub plain_of : NamesOf → Text → List Word → Option Text
plain_of names keyword words = plain_from names (verb_of keyword) 2 keyword words

-- the event of a line as `mmsim` reads it, which has at most 256 bytes
abbrev pub said_by : Result Event LineFault → Meaning
said_by (Ok e) = meaning.Says e
said_by (Err f) = meaning.Wrong

abbrev pub said_in : Option Text → Meaning
said_in None = meaning.Wrong
said_in (Some line) = if nat_le (length line) 256 then said_by (parse line) else meaning.Wrong

-- a name that is none of Windows', and its value
abbrev pub given_as : Text → Option ℕ → Meaning
given_as name None = meaning.Wrong
given_as name (Some n) = meaning.Gives (record { name = name; value = n })

abbrev pub given_under : NamesOf → Option Text → Text → Meaning
given_under names None word = meaning.Wrong
given_under names (Some name) word =
    if is_some (windows_value name) then meaning.Wrong else given_as name (value_of names word)

-- what stands behind `let`: a name, `=` and a number
abbrev pub let_of : NamesOf → List Word → Meaning
let_of names (w ∷ equals ∷ number ∷ []) =
    if bytes_eq equals.text (codes "=") then given_under names (name_of w.text) number.text
    else meaning.Wrong
let_of names _ = meaning.Wrong

abbrev pub sentence : NamesOf → List Word → Meaning
sentence names [] = meaning.Wrong
sentence names (w ∷ ws) =
    if bytes_eq (lowered w.text) (codes "let") then let_of names ws
    else said_in (plain_of names (keyword_for (lowered w.text)) ws)

abbrev pub phrase : NamesOf → Text → Meaning
phrase names [] = meaning.Nothing
phrase names (c ∷ cs) = sentence names (words_of (c ∷ cs))

-- the most bytes of a line, as written and with one space between its words
abbrev pub most_line : ℕ
most_line = 65536

abbrev pub meant_by : NamesOf → Option Text → Meaning
meant_by names None = meaning.Wrong
meant_by names (Some text) =
    if nat_le (length text) most_line then phrase names text else meaning.Wrong

abbrev pub event_or : Result Event LineFault → Meaning → Meaning
event_or (Ok e) other = meaning.Says e
event_or (Err f) other = other

-- What a line means, without its line feed, where these names were given: a plain line what it
-- means to `mmsim`, another what its words stand for.
unfoldable pub meant : NamesOf → Text → Meaning
meant names line =
    if nat_le (length line) most_line
    then event_or (parse line) (meant_by names (tidy_of (without_return line)))
    else meaning.Wrong

-- what it says is in the grammar
abbrev pub FormedIn : Meaning → Type 0
FormedIn meaning.Nothing = Unit {0}
FormedIn (meaning.Gives g) = Unit {0}
FormedIn (meaning.Says e) = IsWellFormed e
FormedIn meaning.Wrong = Unit {0}
