-- What a talk says of the lines that it hears.
-- docs/WRITTEN.md
use Rattle.std.specs.Prelude.{◌≡◌, ◌⊎◌, ℕ, ◌≤◌, ◌==◌, Bool, true, false, if◌then◌else◌, List, [], ◌∷◌, ◌++◌, length, Option, Some, None}
use Rattle.std.specs.List.{AllByRecursion}
use Rattle.mm_types.specs.{Text, Took, IsEnd, Appended, Event}
use Rattle.mm_script.specs.{IsWellFormed}
use Rattle.mm_names.specs.{Ending, NamesOf, no_names, with_given, meant, placed_line, written_lines, without_mark, spelled_events}
use Rattle.mm_names.specs.declared.meanings.Meaning.{Meaning}
use Rattle.mm_names.specs.declared.meanings.Meaning.TheVariants as meaning
use Rattle.mm_names.specs.declared.endings.Ending.TheVariants as ending

-- the event of a line, if it says one
abbrev pub said_of : Meaning → List Event
said_of (meaning.Says e) = e ∷ []
said_of _ = []

-- the names behind a line, and whether a script has begun
abbrev pub names_after : NamesOf → Meaning → NamesOf
names_after names (meaning.Gives g) = with_given names g
names_after names _ = names

abbrev pub begun_after : Bool → Meaning → Bool
begun_after begun (meaning.Says e) = true
begun_after begun _ = begun

-- The events that lines mean, where these names were given before, and a script has begun or not.
-- A line that means nothing that may stand there is left out.
abbrev pub heard_from : NamesOf → Bool → List Text → List Event
heard_from names begun [] = []
heard_from names begun (l ∷ ls) =
    said_of (placed_line begun (meant names l))
    ++ heard_from (names_after names (meant names l))
    (begun_after begun (placed_line begun (meant names l))) ls

-- the lines of a text that end in it, the first of which has begun so
abbrev pub ended_from : Text → Text → List Text
ended_from begun [] = []
ended_from begun (c ∷ cs) =
    if c == 10 then begun ∷ ended_from [] cs else ended_from (begun ++ c ∷ []) cs

-- what is said of a whole text, and of the lines that end in it
unfoldable pub heard_of : Text → List Event
heard_of text = heard_from no_names false (written_lines text)

unfoldable pub heard_before : Text → List Event
heard_before text = heard_from no_names false (ended_from [] (without_mark text))

-- All of these events were written, or a front of them, or a front of their text.
pub record SaidAll (took took' : Option Text) (all : List Event) : Type 0 where
  pub formed : AllByRecursion IsWellFormed all
  pub written : Appended took took' (spelled_events all)

pub record SaidFront (took took' : Option Text) (all : List Event) : Type 0 where
  pub events : List Event
  pub behind : List Event
  pub front : events ++ behind ≡ all
  pub formed : AllByRecursion IsWellFormed events
  pub written : Appended took took' (spelled_events events)

pub record SaidTorn (took took' : Option Text) (all : List Event) : Type 0 where
  pub front : Text
  pub behind : Text
  pub whole : front ++ behind ≡ spelled_events all
  pub written : Appended took took' front

-- What a talk says of the text that it read: all, up to the lines that ended where more could not
-- be read, whole lines where memory was refused, and a front where a write failed.
abbrev pub SaidBy : Ending → (took took' : Option Text) → Text → Type 0
SaidBy ending.Written took took' text = SaidAll took took' (heard_of text)
SaidBy ending.OutFault took took' text = SaidTorn took took' (heard_of text)
SaidBy ending.NoMemory took took' text = SaidFront took took' (heard_of text)
SaidBy _ took took' text = SaidAll took took' (heard_before text)

-- How a talk ends: what it read, and what it said of that. It ends well at the end alone.
pub record Talked (e : Ending) (left left' took took' : Option Text) : Type 0 where
  pub text : Text
  pub was : Took left left' text
  pub at_end : e ≡ ending.Written → IsEnd left'
  pub said : SaidBy e took took' text

-- ---- a talk as it goes on

-- What was heard: the names, whether an event came, whether no line came, and whether a line that
-- may not stand is left out.
pub record HearingOf : Type 0 where
  pub names : NamesOf
  pub begun : Bool
  pub fresh : Bool
  pub leaves_out : Bool

-- and behind a line of this meaning
abbrev pub hearing_after : HearingOf → Meaning → HearingOf
hearing_after h m = record h {
  names = names_after h.names m;
  begun = begun_after h.begun (placed_line h.begun m);
  fresh = false;
}

-- the lines that end, where a mark may stand in front of the first
abbrev pub marked_from : Text → Text → List Text
marked_from begun [] = []
marked_from begun (c ∷ cs) =
    if c == 10 then without_mark begun ∷ ended_from [] cs else marked_from (begun ++ c ∷ []) cs

-- the events of the lines that end in a text, of which the first has begun so
unfoldable pub to_come : HearingOf → Text → Text → List Event
to_come h line text =
    heard_from h.names h.begun
    (if h.fresh then marked_from line text else ended_from line text)

-- a line that has ended
abbrev pub line_without_mark : HearingOf → Text → Text
line_without_mark h line = if h.fresh then without_mark line else line

-- the events that a line says
abbrev pub said_by_line : HearingOf → Text → List Event
said_by_line h line = said_of (placed_line h.begun (meant h.names line))

-- the most bytes of a line that are kept
abbrev pub most_of_line_kept : ℕ
most_of_line_kept = 65540

-- a byte more of a line that has begun, of which no more than so many bytes are kept
abbrev pub KeepsByte : (line line' : Text) → ℕ → Type 0
KeepsByte line line' byte = (line' ≡ line ++ byte ∷ []) ⊎ ((line' ≡ line) × (most_of_line_kept ≤ length line))

-- These bytes were heard: what they say was written, and what comes is what came behind them.
pub record Hears (h : HearingOf) (line : Text) (h' : HearingOf) (line' bytes : Text) (took took' : Option Text) : Type 0 where
  pub events : List Event
  pub formed : AllByRecursion IsWellFormed events
  pub written : Appended took took' (spelled_events events)
  pub comes : (rest : Text) → to_come h line (bytes ++ rest) ≡ events ++ to_come h' line' rest
  pub leaves : h'.leaves_out ≡ true

-- it ended in the midst of what was to be said
abbrev pub HaltsAmid : Ending → (took took' : Option Text) → List Event → Type 0
HaltsAmid ending.NoMemory took took' all = SaidFront took took' all
HaltsAmid ending.OutFault took took' all = SaidTorn took took' all
HaltsAmid _ took took' all = ⊥

abbrev pub HaltsTalk : Ending → HearingOf → (line bytes : Text) → (took took' : Option Text) → Type 0
HaltsTalk e h line bytes took took' = (rest : Text) → HaltsAmid e took took' (to_come h line (bytes ++ rest))

-- a source was heard so far
pub record Listens (left left' : Option Text) (h : HearingOf) (line : Text) (h' : HearingOf) (line' : Text) (took took' : Option Text) : Type 0 where
  pub text : Text
  pub was : Took left left' text
  pub hears : Hears h line h' line' text took took'

-- it was heard no further
abbrev pub StopsBy : Ending → HearingOf → (line text : Text) → (took took' : Option Text) → Type 0
StopsBy ending.NoMemory h line text took took' = HaltsTalk ending.NoMemory h line text took took'
StopsBy ending.OutFault h line text took took' = HaltsTalk ending.OutFault h line text took took'
StopsBy ending.ReadFault h line text took took' = SaidAll took took' (to_come h line text)
StopsBy ending.TooLong h line text took took' = SaidAll took took' (to_come h line text)
StopsBy _ h line text took took' = ⊥

pub record StopsTalk (e : Ending) (left left' : Option Text) (h : HearingOf) (line : Text) (took took' : Option Text) : Type 0 where
  pub text : Text
  pub was : Took left left' text
  pub by : StopsBy e h line text took took'

-- and to its end
pub record ListensOut (left left' : Option Text) (h : HearingOf) (line : Text) (h' : HearingOf) (line' : Text) (took took' : Option Text) : Type 0 where
  pub listens : Listens left left' h line h' line' took took'
  pub at_end : IsEnd left'
