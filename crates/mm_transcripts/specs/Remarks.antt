-- What stands behind a line of a script and its answer.
-- Profile, "What a log shows".
use Rattle.std.specs.Prelude.{ℕ, Bool, false, ◌||◌, ◌==◌, nat_le, if◌then◌else◌, List, [], ◌∷◌}
use Rattle.std.specs.Prelude.{◌++◌, length, Option, Some, None, Result, Ok, Err, unwrap_or, codes}
use Rattle.std.specs.List.{list_any}
use Rattle.mm_types.specs.{Text, Event}
use Rattle.mm_types.specs.declared.events.Event.TheVariants as line
use Rattle.mm_text.specs.{number_of, words_of}
use Rattle.mm_text.specs.Word.{Word}
use Rattle.mm_script.specs.{LineFault, parse}
use Rattle.mm_transcripts.specs.Numbers.{has_name, number_name_text, name_behind}
use Rattle.mm_transcripts.specs.Failures.{failure_name}
use Rattle.mm_transcripts.specs.declared.numbers.NumberPlace.{NumberPlace}
use Rattle.mm_transcripts.specs.declared.numbers.NumberPlace.TheVariants as place
use Rattle.mm_transcripts.specs.declared.numbers.Number.{Number}

-- ---- names in brackets

-- the names of those numbers that have one, between them a comma; one stands before them or none
abbrev pub named_numbers : Bool → List Number → Text
named_numbers after [] = []
named_numbers after (x ∷ xs) =
    (if has_name x then name_behind (codes ", ") after (number_name_text x) else [])
    ++ named_numbers (after || has_name x) xs

-- they stand in brackets, behind this; nothing where no number has a name
abbrev pub bracketed : Text → List Number → Text
bracketed front numbers =
    if list_any has_name numbers then
    front ++ 0x5B ∷ (named_numbers false numbers ++ 0x5D ∷ []) else []

-- ---- the numbers of a line that may have names

abbrev pub placed_number : NumberPlace → ℕ → Number
placed_number p n = record { place = p; value = n }

abbrev pub numbers_said : Event → List Number
numbers_said (line.Alloc pid addr size kind prot) =
    placed_number place.Allocation kind ∷ placed_number place.Protection prot ∷ []
numbers_said (line.Free pid addr size kind) = placed_number place.Allocation kind ∷ []
numbers_said (line.Protect pid addr size prot) = placed_number place.Protection prot ∷ []
numbers_said (line.Create pid size flags name) = placed_number place.Section flags ∷ []
numbers_said (line.CreateFile pid file flags name) = placed_number place.Section flags ∷ []
numbers_said (line.Map pid handle access offset len addr) = placed_number place.Access access ∷ []
numbers_said _ = []

-- ---- and of the answer of a `query`

-- what is no number counts as 0, which has no name
abbrev pub number_said : NumberPlace → Word → Number
number_said p w = placed_number p (unwrap_or (number_of w.text) 0)

-- behind `ok` and four more words stand the state, the protection and the type
abbrev pub told_names : List Word → Text
told_names (ok ∷ base ∷ region ∷ first ∷ size ∷ state ∷ prot ∷ type ∷ rest) =
    bracketed (codes " ")
    (number_said place.State state ∷ number_said place.Protection prot ∷ number_said place.Type type
    ∷ [])
told_names _ = []

-- an answer has at most 256 bytes
abbrev pub told_remark : Event → Text → Text
told_remark (line.Query pid addr) answer =
    if nat_le (length answer) 256 then told_names (words_of answer) else []
told_remark _ answer = []

-- the name of an error or a status, or the names of what a `query` tells
abbrev pub bracketed_or : Option Text → Text → Text
bracketed_or (Some name) other = codes " [" ++ (name ++ codes "]")
bracketed_or None other = other

abbrev pub answer_remark : Event → Option Text → Text
answer_remark e None = []
answer_remark e (Some answer) = bracketed_or (failure_name answer) (told_remark e answer)

-- ---- the line and its answer

abbrev pub event_remark : Event → Option Text → Text
event_remark e answer = answer_remark e answer ++ bracketed (codes "  ") (numbers_said e)

abbrev pub remark_by : Result Event LineFault → Option Text → Text
remark_by (Ok e) answer = event_remark e answer
remark_by (Err f) answer = []

-- What stands behind the answer of a line: its name, and then those of the line's numbers. A line
-- of a script has at most 256 bytes; one that spells no event has no remark.
unfoldable pub remark_text : Text → Option Text → Text
remark_text line answer =
    if nat_le (length line) 256 then remark_by (parse line) answer else []

-- ---- lines without a remark

-- as reads and writes do, and no line whose numbers have names
abbrev pub begins_plainly : Text → Bool
begins_plainly [] = false
begins_plainly (c ∷ cs) = (c == 0x72) || (c == 0x77)

-- as `ok` does, and no error or status
abbrev pub is_plain_answer : Option Text → Bool
is_plain_answer (Some (c ∷ cs)) = c == 0x6F
is_plain_answer _ = false
