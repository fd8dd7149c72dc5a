-- The numbers that stand right behind a keyword: a tool of proof.
use Rattle.std.specs.List.{slice_index_or}
use Rattle.std.specs.Prelude.{◌≡◌, ℕ, ◌+◌, ◌%◌, Bool, true, false, ◌&&◌, List, [], ◌∷◌, slice_set, if◌then◌else◌, Option, Some, None, Result, Ok, Err}
use Rattle.mm_types.specs.{Event}
use Rattle.mm_script.specs.declared.faults.LineFault.{LineFault}
use Rattle.mm_script.specs.declared.fields.Range.{Range}
use Rattle.mm_script.specs.declared.keywords.Keyword.{Keyword}
use Rattle.mm_script.specs.declared.keywords.Keyword.TheVariants as keyword
use Rattle.mm_script.specs.Grammar.{are_joined}
use Rattle.mm_script.specs.Shape.{read, Number, AnyNumber, PidNumber, TidNumber, FlagNumber, Shape, End, Then, pid_from, tid_from, flag_from, shape_of}
use Rattle.mm_script.specs.Reading.{Rest, word_as, ◌>>=◌, MakesFromValues, make_of}

abbrev pub from_to : ℕ → ℕ → Range
from_to least most = record { 0 = least; 1 = most }

-- the ranges of the numbers that a shape begins with
abbrev pub leading : Shape → List Range
leading (Then (Number least most) s) = from_to least most ∷ leading s
leading (Then AnyNumber s) = from_to 0 0xFFFFFFFF ∷ leading s
leading (Then PidNumber s) = from_to 0 255 ∷ leading s
leading (Then TidNumber s) = from_to 0 255 ∷ leading s
leading (Then FlagNumber s) = from_to 0 1 ∷ leading s
leading _ = []

-- what stands behind them
abbrev pub behind : Shape → Shape
behind (Then (Number least most) s) = behind s
behind (Then AnyNumber s) = behind s
behind (Then PidNumber s) = behind s
behind (Then TidNumber s) = behind s
behind (Then FlagNumber s) = behind s
behind s = s

-- what is made of these numbers, from a place on
abbrev pub with_numbers : (s : Shape) → MakesFromValues s Event → List ℕ → ℕ →
    MakesFromValues (behind s) Event
with_numbers (Then (Number least most) s) make ns i =
    with_numbers s (make (slice_index_or ns i 0)) ns (i + 1)
with_numbers (Then AnyNumber s) make ns i =
    with_numbers s (make (slice_index_or ns i 0)) ns (i + 1)
with_numbers (Then PidNumber s) make ns i =
    with_numbers s (make (pid_from (slice_index_or ns i 0 % 256))) ns (i + 1)
with_numbers (Then TidNumber s) make ns i =
    with_numbers s (make (tid_from (slice_index_or ns i 0 % 256))) ns (i + 1)
with_numbers (Then FlagNumber s) make ns i =
    with_numbers s (make (flag_from (slice_index_or ns i 0))) ns (i + 1)
with_numbers s make ns i = make

-- a number in each range, one after another, written from a place on
abbrev pub numbers_as : List Range → ℕ → List ℕ → Rest → Result (List ℕ × Rest) LineFault
numbers_as [] i ns rest = Ok (ns, rest)
numbers_as (r ∷ rs) i ns rest =
    word_as (read (Number r.0 r.1)) rest >>= λ x.
    numbers_as rs (i + 1) (slice_set ns i x.0) x.1

-- the numbers behind a keyword, in places that were 0
abbrev pub numbers_for : List Range → Rest → Result (List ℕ × Rest) LineFault
numbers_for rs rest = numbers_as rs 0 (0 ∷ 0 ∷ 0 ∷ 0 ∷ 0 ∷ 0 ∷ []) rest

-- What a function wrote, and what is left, is what reading gives.
abbrev pub PutsNumbers : Result (Unit {0}) LineFault → List ℕ → Rest →
    Result (List ℕ × Rest) LineFault → Type 0
PutsNumbers (Ok _) ns new read = read ≡ Ok (ns, new)
PutsNumbers (Err f) ns new read = read ≡ Err f

abbrev pub is_end : Shape → Bool
is_end End = true
is_end _ = false

abbrev pub is_unjoined : Keyword → Bool
is_unjoined keyword.Machine = false
is_unjoined keyword.Process = false
is_unjoined keyword.Read = false
is_unjoined _ = true

-- whether only numbers stand behind a keyword, under no joint condition
abbrev pub is_plain : Keyword → Bool
is_plain k = is_end (behind (shape_of k)) && is_unjoined k

abbrev pub IfTrue : Bool → Type 0 → Type 0
IfTrue true P = P
IfTrue false P = Unit {0}

abbrev pub ranges_for : Keyword → List Range
ranges_for k = leading (shape_of k)

-- the event that is made where nothing is left
abbrev pub whole_of : (s : Shape) → MakesFromValues s Event → Option Event
whole_of End make = if are_joined make then Some make else None
whole_of _ make = None

-- the event of a keyword and the numbers behind it
abbrev pub made_with : Keyword → List ℕ → Option Event
made_with k ns = whole_of (behind (shape_of k)) (with_numbers (shape_of k) (make_of k) ns 0)
