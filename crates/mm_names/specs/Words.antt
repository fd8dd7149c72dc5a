-- Keywords as people write them, and what stands behind each.
-- docs/WRITTEN.md
use Rattle.std.specs.Prelude.{ℕ, ◌+◌, ◌==◌, ◌&&◌, ◌||◌, nat_le, nat_lt, bytes_eq, if◌then◌else◌, List, [], ◌∷◌, map, Option, Some, None, unwrap_or, codes}
use Rattle.mm_types.specs.{Text}
use Rattle.mm_names.specs.declared.words.Verb.{Verb}
use Rattle.mm_names.specs.declared.words.Verb.TheVariants as verb
use Rattle.mm_names.specs.declared.words.Kind.{Kind}
use Rattle.mm_names.specs.declared.words.Kind.TheVariants as kind

abbrev pub lower : ℕ → ℕ
lower c = if nat_le 0x41 c && nat_le c 0x5A then c + 0x20 else c

abbrev pub lowered : Text → Text
lowered word = map lower word

-- the text beside the first name that is the word
abbrev pub text_among : List (Text × Text) → Text → Option Text
text_among [] word = None
text_among (x ∷ xs) word = if bytes_eq word x.0 then Some x.1 else text_among xs word

-- Windows' calls, in lower case, and the keywords for them
abbrev pub memory_calls : List (Text × Text)
memory_calls =
    (codes "virtualalloc", codes "alloc") ∷ (codes "virtualallocex", codes "alloc")
    ∷ (codes "virtualfree", codes "free") ∷ (codes "virtualfreeex", codes "free")
    ∷ (codes "virtualprotect", codes "protect") ∷ (codes "virtualprotectex", codes "protect")
    ∷ (codes "virtualquery", codes "query") ∷ (codes "virtualqueryex", codes "query")
    ∷ (codes "getwritewatch", codes "watch") ∷ (codes "resetwritewatch", codes "resetwatch")
    ∷ (codes "exitprocess", codes "exit") ∷ []

abbrev pub section_calls : List (Text × Text)
section_calls =
    (codes "createfilemapping", codes "create") ∷ (codes "createfilemappinga", codes "create")
    ∷ (codes "createfilemappingw", codes "create") ∷ (codes "openfilemapping", codes "open")
    ∷ (codes "openfilemappinga", codes "open") ∷ (codes "openfilemappingw", codes "open")
    ∷ (codes "closehandle", codes "close") ∷ (codes "mapviewoffile", codes "map")
    ∷ (codes "mapviewoffileex", codes "map") ∷ (codes "unmapviewoffile", codes "unmap")
    ∷ (codes "flushviewoffile", codes "flush") ∷ []

-- the keyword for a word in lower case
abbrev pub keyword_for : Text → Text
keyword_for word =
    unwrap_or (text_among memory_calls word) (unwrap_or (text_among section_calls word) word)

-- which words behind a keyword are no numbers
abbrev pub verb_of : Text → Verb
verb_of keyword =
    if bytes_eq keyword (codes "file") then verb.File
    else if bytes_eq keyword (codes "create") then verb.Create
    else if bytes_eq keyword (codes "createfile") then verb.CreateFile
    else if bytes_eq keyword (codes "open") then verb.Open
    else if bytes_eq keyword (codes "write") then verb.Write
    else if bytes_eq keyword (codes "begin") then verb.Begin
    else if bytes_eq keyword (codes "fail") then verb.Fail
    else verb.Other

-- what the word of this number is, the keyword being the first
abbrev pub kind_at : Verb → ℕ → Kind
kind_at verb.File n = if n == 2 then kind.Name else kind.Number
kind_at verb.Create n = if n == 5 then kind.Name else kind.Number
kind_at verb.CreateFile n = if n == 3 || n == 5 then kind.Name else kind.Number
kind_at verb.Open n = if n == 3 then kind.Name else kind.Number
kind_at verb.Write n = if n == 4 then kind.Bytes else kind.Number
kind_at verb.Begin n = if n == 4 then kind.Keyword else kind.Number
kind_at verb.BeginWrite n = if n == 6 then kind.Bytes else kind.Number
kind_at verb.Fail n = if n == 2 || n == 3 then kind.Keyword else kind.Number
kind_at verb.Other n = kind.Number

-- the number of the word behind one of this number; all words from the seventh on are of one kind
abbrev pub next_number : ℕ → ℕ
next_number n = if nat_lt n 7 then n + 1 else n

-- behind `write` a `begin` has bytes
abbrev pub verb_after : Verb → ℕ → Text → Verb
verb_after verb.Begin n word =
    if n == 4 && bytes_eq (lowered word) (codes "write") then verb.BeginWrite else verb.Begin
verb_after v n word = v
